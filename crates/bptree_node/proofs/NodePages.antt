-- Pages of nodes, as they are spelled and as they are written.
use Rattle.std.proofs.Common.{◌≡◌, inl, inr, ℕ, zero, suc, ◌+◌, ◌-◌, ◌*◌, ◌<◌, ◌≤◌, ◌==◌, true, ◌&&◌, List, [], ◌∷◌, ◌++◌, length, take, drop, replicate, get_or, slice_index, refl, sym, ap, subst, ◌∙◌, arith}
use Rattle.std.specs.Prelude.{slice_set, nat_le, if◌then◌else◌, Some, None, All}
use Rattle.std.specs.List.{flat_map}
use Rattle.std.proofs.Math.Nat.{mul-le-mul_left}
use Rattle.std.proofs.lemmas.Bool.{cases_lt, and_parts, eqb-true, eq-eqb, le-leb}
use Rattle.std.proofs.lemmas.List.{append_assoc, take_at, take_all, take_more, drop_at, drop-drop, drop-replicate, take-append-drop, replicate-append-replicate, flat_map_more, get_or_past, length-append, length-take-le, length-drop, length-replicate}
use Rattle.std.proofs.lemmas.List.Elements.{All-cons, All-append, All-replicate, recursion_from_All}
use borrow.Rule.Slice.PartMut.{put_mid}
use Rattle.page_laws.specs.Pages.{are_zero}
use Rattle.bptree_node.specs.declared.rows.Entry.{Entry}
use Rattle.bptree_node.specs.declared.rows.Branch.{Branch}
use Rattle.bptree_node.specs.Nodes.{Leaf, Inner, entry_from, branch_from, entries_in, branches_in, has_rows, is_leaf_page, is_inner_page, node_in, entry_bytes, branch_bytes, spelled, leaf_page, inner_page, FitsEntry, FitsBranch, AreEntries, AreBranches, IsPage}
use Rattle.bptree_node.specs.NodeLaws.{HasRows, rows_known, leaf_known, inner_known, length-entries_in, length-branches_in, get_or-entries_in, get_or-branches_in}
use Rattle.bptree_node.proofs.Spelling.{AreBytes, length-entry_bytes, length-branch_bytes, entry_reads, branch_reads, entry_fits, branch_fits, entry_spells, branch_spells, entry_bytes_fit, branch_bytes_fit, rows_long, rows_are_bytes, rows_read, rows_spell}

-- the bytes before the rows
abbrev pub head : ℕ → ℕ → List ℕ
head kind count = kind ∷ count ∷ replicate 30 0

-- a page in three parts
pub spelled_parts : (kind count : ℕ) (rows : List ℕ) → spelled kind count rows ≡ head kind count ++ (rows ++ replicate (480 - length rows) 0)
unfolding spelled
spelled_parts kind count rows = append_assoc (head kind count) rows (replicate (480 - length rows) 0)

zeros_are : (n : ℕ) → are_zero (replicate n 0) ≡ true
unfolding are_zero
zeros_are zero = refl
zeros_are (suc n) = zeros_are n

are_zeros : (bytes : List ℕ) → are_zero bytes ≡ true → bytes ≡ replicate (length bytes) 0
unfolding are_zero
are_zeros [] is = refl
are_zeros (b ∷ bytes) is = let parts = and_parts (b == 0) (are_zero bytes) is in λ i. eqb-true b 0 parts.0 i ∷ are_zeros bytes parts.1 i

-- ---- a spelled page is read back

pub has_spelled : (kind least most size count : ℕ) (rows : List ℕ) → least ≤ count → count ≤ most → length rows ≡ size * count
    → has_rows kind least most size (spelled kind count rows) ≡ true
unfolding has_rows spelled
has_spelled kind least most size count rows enough few long =
    let page = spelled kind count rows in
    let zeros : List ℕ = replicate (480 - length rows) 0 in
    let middle : take 30 (drop 2 page) ≡ replicate 30 0 =
    ap (λ xs. take 30 (drop 2 xs)) (spelled_parts kind count rows) ∙ take_at (replicate 30 0) (rows ++ zeros) 30 (length-replicate {A = ℕ} 30 0) in
    let at : length (head kind count ++ rows) ≡ 32 + size * count =
    length-append (head kind count) rows ∙ omega (arith, long, length-replicate {A = ℕ} 30 0) in
    let end : drop (32 + size * count) page ≡ zeros = drop_at (head kind count ++ rows) zeros (32 + size * count) at in
    let same : (kind == kind) ≡ true = eq-eqb kind kind refl in
    let above : nat_le least count ≡ true = le-leb least count enough in
    let below : nat_le count most ≡ true = le-leb count most few in
    let front : are_zero (take 30 (drop 2 page)) ≡ true = ap are_zero middle ∙ zeros_are 30 in
    let back : are_zero (drop (32 + size * count) page) ≡ true = ap are_zero end ∙ zeros_are (480 - length rows) in
    λ i. same i && above i && below i && front i && back i

-- spelled rows begin behind the head
from_head : (kind count size : ℕ) → length (head kind count) ≡ 32 + size * 0
from_head kind count size = omega (arith, length-replicate {A = ℕ} 30 0)

spelled_is_page : (kind count : ℕ) (rows : List ℕ) → kind < 256 → count < 256 → length rows ≤ 480 → All (λ b. b < 256) rows → IsPage (spelled kind count rows)
unfolding spelled
spelled_is_page kind count rows small few short are =
    let P = λ (b : ℕ). b < 256 in
    let zeros : List ℕ = replicate (480 - length rows) 0 in
    let below : 0 < 256 = omega arith in
    record {
      len = length-append (head kind count ++ rows) zeros
          ∙ omega (arith, short, length-append (head kind count) rows, length-replicate {A = ℕ} 30 0, length-replicate {A = ℕ} (480 - length rows) 0);
      bytes = All-append P (head kind count ++ rows) zeros
          (All-append P (head kind count) rows
          (All-cons P kind (count ∷ replicate 30 0) small (All-cons P count (replicate 30 0) few (All-replicate P 30 0 below))) are)
          (All-replicate P (480 - length rows) 0 below);
    }

module _ (entries : List Entry) (are : AreEntries entries) where
  entries_long : length (flat_map entry_bytes entries) ≡ 16 * length entries
  entries_long = rows_long entry_bytes 16 length-entry_bytes entries

  pub leaf_is_page : IsPage (leaf_page entries)
  leaf_is_page = spelled_is_page 1 (length entries) (flat_map entry_bytes entries) (omega arith) (omega (arith, are.few))
      (omega (arith, entries_long, are.few)) (rows_are_bytes entry_bytes 16 entry_bytes_fit entries)

  pub leaf_is_read : node_in (leaf_page entries) ≡ Some (Leaf entries)
  unfolding node_in entries_in spelled
  leaf_is_read =
      let count = length entries in
      let bytes = flat_map entry_bytes entries in
      let page = leaf_page entries in
      let is : is_leaf_page page ≡ true = has_spelled 1 1 30 16 count bytes are.some are.few entries_long in
      (λ i. if is i then Some (Leaf (entries_in count page)) else if is_inner_page page then Some (Inner (branches_in count page)) else None)
      ∙ ap (λ xs. Some (Leaf (entries_in count xs))) (spelled_parts 1 count bytes)
      ∙ ap (λ es. Some (Leaf es)) (rows_read entry_bytes 16 entry_from 32 FitsEntry length-entry_bytes entry_reads entries (head 1 count)
      (replicate (480 - length bytes) 0) 0 (from_head 1 count 16) (recursion_from_All FitsEntry entries are.fit))

module _ (branches : List Branch) (are : AreBranches branches) where
  branches_long : length (flat_map branch_bytes branches) ≡ 32 * length branches
  branches_long = rows_long branch_bytes 32 length-branch_bytes branches

  pub inner_is_page : IsPage (inner_page branches)
  inner_is_page = spelled_is_page 2 (length branches) (flat_map branch_bytes branches) (omega arith) (omega (arith, are.few))
      (omega (arith, branches_long, are.few)) (rows_are_bytes branch_bytes 32 branch_bytes_fit branches)

  pub inner_is_read : node_in (inner_page branches) ≡ Some (Inner branches)
  unfolding node_in branches_in spelled has_rows
  inner_is_read =
      let count = length branches in
      let bytes = flat_map branch_bytes branches in
      let page = inner_page branches in
      let is : is_inner_page page ≡ true = has_spelled 2 2 14 32 count bytes are.some are.few branches_long in
      (λ i. if is i then Some (Inner (branches_in count page)) else None)
      ∙ ap (λ xs. Some (Inner (branches_in count xs))) (spelled_parts 2 count bytes)
      ∙ ap (λ bs. Some (Inner bs)) (rows_read branch_bytes 32 branch_from 32 FitsBranch length-branch_bytes branch_reads branches (head 2 count)
      (replicate (480 - length bytes) 0) 0 (from_head 2 count 32) (recursion_from_All FitsBranch branches are.fit))

-- ---- as a page is written

pub head_written : (kind count : ℕ) (page zeros : List ℕ) → zeros ≡ replicate (length page) 0 → length page ≡ 512
    → slice_set (slice_set zeros 0 kind) 1 count ≡ spelled kind count []
unfolding spelled
head_written kind count page zeros are long =
    ap (λ xs. slice_set (slice_set xs 0 kind) 1 count) (are ∙ ap (λ m. replicate m 0) long)
    ∙ ap (λ xs. kind ∷ count ∷ xs) (sym (replicate-append-replicate 30 480 0))

-- a row behind those that are there
pub row_written : (kind count at size k : ℕ) (rows row : List ℕ) → at ≡ 32 + length rows → length row ≡ size → k ≡ size → at + size ≤ 512
    → put_mid at k (spelled kind count rows) row ≡ spelled kind count (rows ++ row)
row_written kind count at size k rows row is long all room =
    let zeros : List ℕ = replicate (480 - length rows) 0 in
    let front = head kind count ++ rows in
    let short : length front ≡ at = length-append (head kind count) rows ∙ omega (arith, is, length-replicate {A = ℕ} 30 0) in
    let page : spelled kind count rows ≡ front ++ zeros = spelled_parts kind count rows ∙ sym (append_assoc (head kind count) rows zeros) in
    let left : drop k zeros ≡ replicate (480 - length (rows ++ row)) 0 =
    drop-replicate k (480 - length rows) 0 ∙ ap (λ m. replicate m 0) (omega (arith, length-append rows row, is, long, all, room)) in
    (λ i. take at (page i) ++ (row ++ drop k (drop at (page i))))
    ∙ (λ i. take_at front zeros at short i ++ (row ++ drop k (drop_at front zeros at short i)))
    ∙ ap (λ xs. front ++ (row ++ xs)) left
    ∙ append_assoc (head kind count) rows (row ++ replicate (480 - length (rows ++ row)) 0)
    ∙ ap (λ xs. head kind count ++ xs) (sym (append_assoc rows row (replicate (480 - length (rows ++ row)) 0)))
    ∙ sym (spelled_parts kind count (rows ++ row))

-- one row more
module _ {R : Type 0} (bytes_of : R → List ℕ) (kind size most : ℕ) (sized : (r : R) → length (bytes_of r) ≡ size) (room : size * most ≤ 480) where
  pub rows_more : (rows : List R) (i at k : ℕ) (d : R) (page row : List ℕ) → i < length rows → length rows ≤ most → at ≡ 32 + size * i → k ≡ size
      → page ≡ spelled kind (length rows) (flat_map bytes_of (take i rows)) → row ≡ bytes_of (get_or rows i d)
      → put_mid at k page row ≡ spelled kind (length rows) (flat_map bytes_of (take (i + 1) rows))
  rows_more rows i at k d page row more few is all so_far here =
      let r = get_or rows i d in
      let before = take i rows in
      let long : length (flat_map bytes_of before) ≡ size * i =
      rows_long bytes_of size sized before ∙ ap (λ m. size * m) (length-take-le i rows (omega arith)) in
      let next : size * (i + 1) ≤ size * most = mul-le-mul_left size (omega (arith, more, few)) in
      (λ j. put_mid at k (so_far j) (here j))
      ∙ row_written kind (length rows) at size k (flat_map bytes_of before) (bytes_of r) (omega (arith, is, long)) (sized r) all (omega (arith, is, next, room))
      ∙ ap (spelled kind (length rows)) (flat_map_more bytes_of [] before r ∙ ap (flat_map bytes_of) (sym (take_more rows i d more)))

-- all entries
pub leaf_written : (entries : List Entry) (i : ℕ) (page : List ℕ) → 1 ≤ length entries → length entries ≤ 30 → length entries ≤ i
    → page ≡ spelled 1 (length entries) (flat_map entry_bytes (take i entries)) → All FitsEntry (take i entries)
    → (page ≡ leaf_page entries) × (node_in page ≡ Some (Leaf entries)) × AreEntries entries
leaf_written entries i page some few all so_far fit =
    let whole = take_all i entries all in
    let is : page ≡ leaf_page entries = so_far ∙ ap (λ es. spelled 1 (length entries) (flat_map entry_bytes es)) whole in
    let are : AreEntries entries = record { some = some; few = few; fit = subst (All FitsEntry) whole fit } in
    (is, ap node_in is ∙ leaf_is_read entries are, are)

-- all branches
pub inner_written : (branches : List Branch) (i : ℕ) (page : List ℕ) → 2 ≤ length branches → length branches ≤ 14 → length branches ≤ i
    → page ≡ spelled 2 (length branches) (flat_map branch_bytes (take i branches)) → All FitsBranch (take i branches)
    → (page ≡ inner_page branches) × (node_in page ≡ Some (Inner branches)) × AreBranches branches
inner_written branches i page some few all so_far fit =
    let whole = take_all i branches all in
    let is : page ≡ inner_page branches = so_far ∙ ap (λ bs. spelled 2 (length branches) (flat_map branch_bytes bs)) whole in
    let are : AreBranches branches = record { some = some; few = few; fit = subst (All FitsBranch) whole fit } in
    (is, ap node_in is ∙ inner_is_read branches are, are)

-- ---- a page that is a node spells its rows

behind_head : (tail : List ℕ) (n : ℕ) → length tail ≡ 510 → n ≤ 480 → are_zero (take 30 tail) ≡ true → are_zero (drop n (drop 30 tail)) ≡ true
    → tail ≡ replicate 30 0 ++ (take n (drop 30 tail) ++ replicate (480 - n) 0)
behind_head tail n long few front back =
    let rest = drop 30 tail in
    let first : take 30 tail ≡ replicate 30 0 = are_zeros (take 30 tail) front ∙ ap (λ m. replicate m 0) (length-take-le 30 tail (omega (arith, long))) in
    let last : drop n rest ≡ replicate (480 - n) 0 =
    are_zeros (drop n rest) back ∙ ap (λ m. replicate m 0) (length-drop n rest ∙ omega (arith, long, length-drop 30 tail)) in
    sym (take-append-drop 30 tail) ∙ (λ i. first i ++ rest)
    ∙ ap (λ xs. replicate 30 0 ++ xs) (sym (take-append-drop n rest) ∙ ap (λ xs. take n rest ++ xs) last)

pub page_is_spelled : (kind least most size : ℕ) (page : List ℕ) → length page ≡ 512 → size * most ≤ 480 → HasRows kind least most size page
    → page ≡ spelled kind (slice_index page 1) (take (size * slice_index page 1) (drop 32 page))
page_is_spelled kind least most size [] long room has = absurd (omega (arith, long))
page_is_spelled kind least most size (a ∷ []) long room has = absurd (omega (arith, long))
page_is_spelled kind least most size (a ∷ b ∷ tail) long room has =
    let n = size * b in
    let few : n ≤ 480 = omega (arith, room, mul-le-mul_left size has.few) in
    let rows = take n (drop 30 tail) in
    let back : are_zero (drop n (drop 30 tail)) ≡ true = ap are_zero (drop-drop n 32 (a ∷ b ∷ tail)) ∙ has.back in
    let is : length rows ≡ n = length-take-le n (drop 30 tail) (omega (arith, few, long, length-drop 30 tail)) in
    let so_long = sym is in
    ap (λ xs. a ∷ b ∷ xs) (behind_head tail n (omega (arith, long)) few has.front back)
    ∙ (λ i. has.is_kind i ∷ b ∷ replicate 30 0 ++ (rows ++ replicate (480 - so_long i) 0))
    ∙ sym (spelled_parts kind b rows)

all_bytes : (page : List ℕ) → All (λ b. b < 256) page → AreBytes page
all_bytes page are k = elim (cases_lt k (length page)) [
  | inl within ↦ are k 0 within
  | inr past ↦ let none = get_or_past page k 0 past in omega (arith, none)
]

module _ (page : List ℕ) (is : IsPage page) where
  pub leaf_spells : (entries : List Entry) → node_in page ≡ Some (Leaf entries) → AreEntries entries × (page ≡ leaf_page entries)
  unfolding entries_in
  leaf_spells entries node =
      let bytes = all_bytes page is.bytes in
      let count = slice_index page 1 in
      let known = leaf_known page entries node in
      let has = rows_known 1 1 30 16 page known.0 in
      let long = length-entries_in count page in
      let room : 32 + 16 * (0 + count) ≤ length page = omega (arith, is.len, has.few) in
      let rows : flat_map entry_bytes (entries_in count page) ≡ take (16 * count) (drop 32 page) =
      rows_spell entry_bytes 16 entry_from 32 page (λ place fits. entry_spells page place bytes fits) count 0 room in
      let so_long = sym long in
      let so_rows = sym rows in
      subst (λ (es : List Entry). AreEntries es × (page ≡ leaf_page es)) known.1 (
        record {
          some = omega (arith, long, has.enough);
          few = omega (arith, long, has.few);
          fit = λ k d below. subst FitsEntry (sym (get_or-entries_in count page k d (omega (arith, below, long))))
              (entry_fits page (32 + 16 * k) bytes);
        },
        page_is_spelled 1 1 30 16 page is.len (omega arith) has ∙ (λ i. spelled 1 (so_long i) (so_rows i)),
      )

  pub inner_spells : (branches : List Branch) → node_in page ≡ Some (Inner branches) → AreBranches branches × (page ≡ inner_page branches)
  unfolding branches_in
  inner_spells branches node =
      let bytes = all_bytes page is.bytes in
      let count = slice_index page 1 in
      let known = inner_known page branches node in
      let has = rows_known 2 2 14 32 page known.0 in
      let long = length-branches_in count page in
      let room : 32 + 32 * (0 + count) ≤ length page = omega (arith, is.len, has.few) in
      let rows : flat_map branch_bytes (branches_in count page) ≡ take (32 * count) (drop 32 page) =
      rows_spell branch_bytes 32 branch_from 32 page (λ place fits. branch_spells page place bytes fits) count 0 room in
      let so_long = sym long in
      let so_rows = sym rows in
      subst (λ (bs : List Branch). AreBranches bs × (page ≡ inner_page bs)) known.1 (
        record {
          some = omega (arith, long, has.enough);
          few = omega (arith, long, has.few);
          fit = λ k d below. subst FitsBranch (sym (get_or-branches_in count page k d (omega (arith, below, long))))
              (branch_fits page (32 + 32 * k) bytes);
        },
        page_is_spelled 2 2 14 32 page is.len (omega arith) has ∙ (λ i. spelled 2 (so_long i) (so_rows i)),
      )
