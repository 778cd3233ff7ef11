-- Pages as they are read: their rows, and how many there are.
use Rattle.std.proofs.Common.{◌≡◌, ℕ, ◌+◌, ◌*◌, ◌<◌, ◌≤◌, ◌==◌, Bool, true, false, ◌&&◌, List, length, take, drop, get_or, slice_index, refl, sym, ap, ◌∙◌, arith}
use Rattle.std.specs.Prelude.{nat_le, if◌then◌else◌, Some, None}
use Rattle.std.proofs.lemmas.Bool.{and_parts, eqb-true, leb-true}
use Rattle.std.proofs.lemmas.List.FromFn.{length-map-range_with_len, get_or-map-range_with_len}
use Rattle.page_laws.specs.Pages.{are_zero}
use Rattle.bptree_node.specs.declared.rows.Entry.{Entry}
use Rattle.bptree_node.specs.declared.rows.Branch.{Branch}
use Rattle.bptree_node.specs.Nodes.{Leaf, Inner, entry_from, branch_from, entries_in, branches_in, has_rows, is_leaf_page, is_inner_page, node_in}

-- what a page of this kind is, with a number of rows within these bounds
pub record HasRows (kind least most size : ℕ) (page : List ℕ) : Type 0 where
  pub is_kind : slice_index page 0 ≡ kind
  pub enough : least ≤ slice_index page 1
  pub few : slice_index page 1 ≤ most
  pub front : are_zero (take 30 (drop 2 page)) ≡ true
  pub back : are_zero (drop (32 + size * slice_index page 1) page) ≡ true

pub rows_known : (kind least most size : ℕ) (page : List ℕ) → has_rows kind least most size page ≡ true → HasRows kind least most size page
unfolding has_rows
rows_known kind least most size page is =
    let count = slice_index page 1 in
    let a = slice_index page 0 == kind in
    let b = nat_le least count in
    let c = nat_le count most in
    let d = are_zero (take 30 (drop 2 page)) in
    let e = are_zero (drop (32 + size * count) page) in
    let four = and_parts (a && b && c && d) e is in
    let three = and_parts (a && b && c) d four.0 in
    let two = and_parts (a && b) c three.0 in
    let one = and_parts a b two.0 in
    record {
      is_kind = eqb-true (slice_index page 0) kind one.0;
      enough = leb-true least count one.1;
      few = leb-true count most two.1;
      front = three.1;
      back = four.1;
    }

-- ---- the rows of a page

pub length-entries_in : (count : ℕ) (page : List ℕ) → length (entries_in count page) ≡ count
unfolding entries_in
length-entries_in count page = length-map-range_with_len (λ i. entry_from (32 + 16 * i) page) 0 count

pub length-branches_in : (count : ℕ) (page : List ℕ) → length (branches_in count page) ≡ count
unfolding branches_in
length-branches_in count page = length-map-range_with_len (λ i. branch_from (32 + 32 * i) page) 0 count

pub get_or-entries_in : (count : ℕ) (page : List ℕ) (i : ℕ) (d : Entry) → i < count → get_or (entries_in count page) i d ≡ entry_from (32 + 16 * i) page
unfolding entries_in
get_or-entries_in count page i d below = get_or-map-range_with_len (λ i. entry_from (32 + 16 * i) page) 0 count i i d below (omega arith)

pub get_or-branches_in : (count : ℕ) (page : List ℕ) (i : ℕ) (d : Branch) → i < count → get_or (branches_in count page) i d ≡ branch_from (32 + 32 * i) page
unfolding branches_in
get_or-branches_in count page i d below = get_or-map-range_with_len (λ i. branch_from (32 + 32 * i) page) 0 count i i d below (omega arith)

-- ---- the node that a page is

pub leaf_found : (page : List ℕ) → is_leaf_page page ≡ true → node_in page ≡ Some (Leaf (entries_in (slice_index page 1) page))
unfolding node_in
leaf_found page is = rw is

pub inner_found : (page : List ℕ) → is_leaf_page page ≡ false → is_inner_page page ≡ true → node_in page ≡ Some (Inner (branches_in (slice_index page 1) page))
unfolding node_in
inner_found page other is = rw (other, is)

pub none_found : (page : List ℕ) → is_leaf_page page ≡ false → is_inner_page page ≡ false → node_in page ≡ None
unfolding node_in
none_found page other none = rw (other, none)

-- the rows of a node
leaf_rows : (a b : Bool) (es entries : List Entry) (bs : List Branch)
    → (if a then Some (Leaf es) else if b then Some (Inner bs) else None) ≡ Some (Leaf entries) → (a ≡ true) × (es ≡ entries)
leaf_rows true b es entries bs is = (refl, cc)
leaf_rows false true es entries bs is = absurd (cc)
leaf_rows false false es entries bs is = absurd (cc)

inner_rows : (a b : Bool) (es : List Entry) (bs branches : List Branch)
    → (if a then Some (Leaf es) else if b then Some (Inner bs) else None) ≡ Some (Inner branches) → (b ≡ true) × (bs ≡ branches)
inner_rows true b es bs branches is = absurd (cc)
inner_rows false true es bs branches is = (refl, cc)
inner_rows false false es bs branches is = absurd (cc)

pub leaf_known : (page : List ℕ) (entries : List Entry) → node_in page ≡ Some (Leaf entries)
    → (is_leaf_page page ≡ true) × (entries_in (slice_index page 1) page ≡ entries)
unfolding node_in
leaf_known page entries is =
    leaf_rows (is_leaf_page page) (is_inner_page page) (entries_in (slice_index page 1) page) entries (branches_in (slice_index page 1) page) is

pub inner_known : (page : List ℕ) (branches : List Branch) → node_in page ≡ Some (Inner branches)
    → (is_inner_page page ≡ true) × (branches_in (slice_index page 1) page ≡ branches)
unfolding node_in
inner_known page branches is =
    inner_rows (is_leaf_page page) (is_inner_page page) (entries_in (slice_index page 1) page) (branches_in (slice_index page 1) page) branches is

-- ---- how many rows a node has

pub leaf_counts : (page : List ℕ) (entries : List Entry) → node_in page ≡ Some (Leaf entries) → (1 ≤ length entries) × (length entries ≤ 30)
leaf_counts page entries node =
    let known = leaf_known page entries node in
    let has = rows_known 1 1 30 16 page known.0 in
    let long : slice_index page 1 ≡ length entries = sym (length-entries_in (slice_index page 1) page) ∙ ap length known.1 in
    (omega (arith, has.enough, long), omega (arith, has.few, long))

pub inner_counts : (page : List ℕ) (branches : List Branch) → node_in page ≡ Some (Inner branches) → (2 ≤ length branches) × (length branches ≤ 14)
inner_counts page branches node =
    let known = inner_known page branches node in
    let has = rows_known 2 2 14 32 page known.0 in
    let long : slice_index page 1 ≡ length branches = sym (length-branches_in (slice_index page 1) page) ∙ ap length known.1 in
    (omega (arith, has.enough, long), omega (arith, has.few, long))
