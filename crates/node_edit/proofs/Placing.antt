-- A row put in among others, or in the place of one, as the page spells it.
use Rattle.std.proofs.Common.{◌≡◌, ℕ, ◌+◌, ◌-◌, ◌*◌, ◌<◌, ◌≤◌, List, [], ◌∷◌, ◌++◌, length, take, drop, replicate, get_or, refl, sym, ap, subst, ◌∙◌, arith, append_assoc, length-append}
use Rattle.std.specs.Prelude.{slice_set, Some}
use Rattle.std.specs.List.{flat_map, replace_range, insert as inserted}
use Rattle.std.proofs.lemmas.List.{take_at, drop_at, drop-drop, take-append-drop, drop-replicate, length-take-le, length-drop, length-replicate, flat_map_more, take-append-le, take-take, get_or_default}
use Rattle.std.proofs.lemmas.List.Elements.{All-nil, All-cons, All-append, All-take, All-drop}
use Rattle.std.proofs.lemmas.Grind.{flat_map-append}
use Rattle.std.proofs.lemmas.List.Concat.{flat_map-cons}
use Rattle.std.proofs.lemmas.List.Edits.{length-insert}
use borrow.Rule.Slice.PartMut.{put_mid}
use Rattle.bptree_node.specs.declared.rows.Entry.{Entry}
use Rattle.bptree_node.specs.declared.rows.Branch.{Branch}
use Rattle.bptree_node.specs.Nodes.{Leaf, Inner, node_in, entry_bytes, branch_bytes, spelled, FitsEntry, FitsBranch, AreEntries, AreBranches, IsPage}
use Rattle.bptree_node.proofs.Spelling.{length-entry_bytes, length-branch_bytes, rows_long}
use Rattle.bptree_node.proofs.NodePages.{head, spelled_parts, leaf_is_read, inner_is_read, leaf_spells, inner_spells}

module _ {R : Type 0} (bytes_of : R → List ℕ) (kind size : ℕ) (sized : (r : R) → length (bytes_of r) ≡ size) where
  -- the bytes before a row, those of the rows from there on, and those behind
  abbrev front : List R → ℕ → List ℕ
  front rows i = head kind (length rows) ++ flat_map bytes_of (take i rows)

  abbrev back : List R → ℕ → List ℕ
  back rows i = flat_map bytes_of (drop i rows)

  abbrev zeros : List R → List ℕ
  zeros rows = replicate (480 - length (flat_map bytes_of rows)) 0

  front-long : (rows : List R) (i : ℕ) → i ≤ length rows → length (front rows i) ≡ 32 + size * i
  front-long rows i inside =
      length-append (head kind (length rows)) (flat_map bytes_of (take i rows))
      ∙ omega (arith, length-replicate {A = ℕ} 30 0, rows_long bytes_of size sized (take i rows), ap (λ (m : ℕ). size * m) (length-take-le i rows inside))

  halves : (rows : List R) (i : ℕ) → flat_map bytes_of rows ≡ flat_map bytes_of (take i rows) ++ back rows i
  halves rows i = ap (flat_map bytes_of) (sym (take-append-drop i rows)) ∙ flat_map-append bytes_of (take i rows) (drop i rows)

  -- a page, cut before a row
  cut : (rows : List R) (i : ℕ) → spelled kind (length rows) (flat_map bytes_of rows) ≡ front rows i ++ (back rows i ++ zeros rows)
  cut rows i =
      let a = flat_map bytes_of (take i rows) in
      let start = head kind (length rows) in
      spelled_parts kind (length rows) (flat_map bytes_of rows)
      ∙ ap (λ (xs : List ℕ). start ++ (xs ++ zeros rows)) (halves rows i)
      ∙ ap (λ (xs : List ℕ). start ++ xs) (append_assoc a (back rows i) (zeros rows))
      ∙ sym (append_assoc start a (back rows i ++ zeros rows))

  -- a row in the place of another one
  pub row_set : (rows : List R) (r : R) (i at k : ℕ) (old row : List ℕ) → i < length rows → old ≡ spelled kind (length rows) (flat_map bytes_of rows)
      → at ≡ 32 + size * i → k ≡ size → row ≡ bytes_of r
      → put_mid at k old row ≡ spelled kind (length (replace_range rows i (i + 1) (r ∷ []))) (flat_map bytes_of (replace_range rows i (i + 1) (r ∷ [])))
  row_set rows r i at k old row inside spells place all is =
      let new = replace_range rows i (i + 1) (r ∷ []) in
      let a = flat_map bytes_of (take i rows) in
      let b = bytes_of r in
      let rest = back rows (i + 1) in
      let z = zeros rows in
      let start = head kind (length rows) in
      let first : take at old ≡ front rows i =
      ap (take at) (spells ∙ cut rows i) ∙ take_at (front rows i) (back rows i ++ z) at (front-long rows i (omega (arith, inside)) ∙ sym place) in
      let next : at + k ≡ 32 + size * (i + 1) = omega (arith, place, all) in
      let later : drop k (drop at old) ≡ rest ++ z =
      drop-drop k at old ∙ ap (λ (m : ℕ). drop m old) next ∙ ap (drop (32 + size * (i + 1))) (spells ∙ cut rows (i + 1))
      ∙ drop_at (front rows (i + 1)) (rest ++ z) (32 + size * (i + 1)) (front-long rows (i + 1) (omega (arith, inside))) in
      let bytes : flat_map bytes_of new ≡ (a ++ b) ++ rest =
      flat_map-append bytes_of (take i rows ++ r ∷ []) (drop (i + 1) rows) ∙ ap (λ (xs : List ℕ). xs ++ rest) (sym (flat_map_more bytes_of [] (take i rows) r)) in
      let same : length rows ≡ length new =
      omega (arith, inside, length-append (take i rows ++ r ∷ []) (drop (i + 1) rows), length-append (take i rows) (r ∷ []), length-take-le i rows (omega (arith, inside)), length-drop (i + 1) rows) in
      let long : length (flat_map bytes_of rows) ≡ length (flat_map bytes_of new) =
      rows_long bytes_of size sized rows ∙ ap (λ (m : ℕ). size * m) same ∙ sym (rows_long bytes_of size sized new) in
      (λ j. first j ++ (is j ++ later j))
      ∙ append_assoc start a (b ++ (rest ++ z))
      ∙ ap (λ (xs : List ℕ). start ++ xs) (sym (append_assoc (a ++ b) rest z ∙ append_assoc a b (rest ++ z)))
      ∙ ap (λ (xs : List ℕ). start ++ (xs ++ z)) (sym bytes)
      ∙ (λ j. head kind (same j) ++ (flat_map bytes_of new ++ replicate (480 - long j) 0))
      ∙ sym (spelled_parts kind (length new) (flat_map bytes_of new))

  -- a row more
  pub row_put : (rows : List R) (r : R) (i at end k m : ℕ) (old src row : List ℕ) → i ≤ length rows → old ≡ spelled kind (length rows) (flat_map bytes_of rows) → size * (length rows + 1) ≤ 480
      → at ≡ 32 + size * i → end ≡ 32 + size * length rows → k ≡ size → m ≡ end - at → src ≡ take (end - at) (drop at old) → row ≡ bytes_of r
      → slice_set (put_mid at k (put_mid (at + size) m old src) row) 1 (length rows + 1) ≡ spelled kind (length (inserted rows i r)) (flat_map bytes_of (inserted rows i r))
  row_put rows r i at end k m old src row inside spells room place last all moved from is =
      let new = inserted rows i r in
      let n = length rows in
      let a = flat_map bytes_of (take i rows) in
      let b = bytes_of r in
      let rest = back rows i in
      let z = zeros rows in
      let less : List ℕ = replicate (480 - length (flat_map bytes_of new)) 0 in
      let f = front rows i in
      let whole = rows_long bytes_of size sized rows in
      let f_long : length f ≡ at = front-long rows i inside ∙ sym place in
      let rest_long : length rest ≡ end - at =
      omega (arith, whole, ap length (halves rows i), length-append a rest, f_long, place, last, front-long rows i inside, length-append (head kind n) a, length-replicate {A = ℕ} 30 0) in
      let split : old ≡ f ++ (rest ++ z) = spells ∙ cut rows i in
      let upto : at + (end - at) ≡ end = omega (arith, f_long, rest_long, whole, ap length (halves rows i), length-append a rest, place, last, front-long rows i inside, length-append (head kind n) a, length-replicate {A = ℕ} 30 0) in
      let step : size * (n + 1) ≡ size * n + size = omega arith in
      let old_long : length old ≡ 512 =
      ap length split ∙ length-append f (rest ++ z) ∙ omega (arith, f_long, rest_long, upto, last, whole, room, step, length-append rest z, length-replicate {A = ℕ} (480 - length (flat_map bytes_of rows)) 0) in
      let source : src ≡ rest =
      from ∙ ap (take (end - at)) (ap (drop at) split ∙ drop_at f (rest ++ z) at f_long) ∙ take_at rest z (end - at) rest_long in
      let new_long : length new ≡ n + 1 = length-insert rows i r inside in
      let new_bytes : length (flat_map bytes_of new) ≡ size * n + size = rows_long bytes_of size sized new ∙ ap (λ (c : ℕ). size * c) new_long ∙ step in
      let behind : at + size + m ≡ end + size = omega (arith, moved, upto) in
      let fewer : 480 - length (flat_map bytes_of rows) - size ≡ 480 - length (flat_map bytes_of new) = omega (arith, whole, new_bytes) in
      let gone : drop m (drop (at + size) old) ≡ less =
      drop-drop m (at + size) old ∙ ap (λ (c : ℕ). drop c old) behind ∙ sym (drop-drop size end old)
      ∙ ap (drop size) (ap (drop end) (split ∙ sym (append_assoc f rest z)) ∙ drop_at (f ++ rest) z end (length-append f rest ∙ omega (arith, f_long, rest_long, upto)))
      ∙ drop-replicate size (480 - length (flat_map bytes_of rows)) 0 ∙ ap (λ (c : ℕ). replicate c 0) fewer in
      let t = take (at + size) old in
      let x = src ++ drop m (drop (at + size) old) in
      let t_long : length t ≡ at + size = length-take-le (at + size) old (omega (arith, old_long, upto, last, room, step)) in
      let first : take at (t ++ x) ≡ f =
      take-append-le at t x (omega (arith, t_long)) ∙ take-take at (at + size) old (omega arith) ∙ ap (take at) split ∙ take_at f (rest ++ z) at f_long in
      let after : at + k ≡ at + size = ap (λ (c : ℕ). at + c) all in
      let later : drop k (drop at (t ++ x)) ≡ rest ++ less =
      drop-drop k at (t ++ x) ∙ ap (λ (c : ℕ). drop c (t ++ x)) after ∙ drop_at t x (at + size) t_long ∙ (λ j. source j ++ gone j) in
      let bytes : flat_map bytes_of new ≡ a ++ (b ++ rest) =
      flat_map-append bytes_of (take i rows) (r ∷ drop i rows) ∙ ap (λ (xs : List ℕ). a ++ xs) (flat_map-cons bytes_of r (drop i rows)) in
      let start = head kind (n + 1) in
      let edited : slice_set (f ++ (b ++ (rest ++ less))) 1 (n + 1) ≡ (start ++ a) ++ (b ++ (rest ++ less)) = refl in
      (λ j. slice_set (first j ++ (is j ++ later j)) 1 (n + 1))
      ∙ edited
      ∙ append_assoc start a (b ++ (rest ++ less))
      ∙ ap (λ (xs : List ℕ). start ++ xs) (sym (append_assoc a (b ++ rest) less ∙ ap (λ (xs : List ℕ). a ++ xs) (append_assoc b rest less)))
      ∙ ap (λ (xs : List ℕ). start ++ (xs ++ less)) (sym bytes)
      ∙ ap (λ (c : ℕ). head kind c ++ (flat_map bytes_of new ++ less)) (sym new_long)
      ∙ sym (spelled_parts kind (length new) (flat_map bytes_of new))

-- what is known of the bytes of a page
pub page-known : (page : List ℕ) → length page ≡ 512 → ((k : ℕ) → get_or page k 0 < 256) → IsPage page
page-known page long fit = record { len = long; bytes = λ k d below. subst (λ (b : ℕ). b < 256) (get_or_default page k 0 d below) (fit k) }

module _ (page : List ℕ) (is : IsPage page) where
  -- a leaf with an entry more
  pub entry-put : (entries : List Entry) (e : Entry) (i count k m : ℕ) (src row : List ℕ) → node_in page ≡ Some (Leaf entries) → i ≤ length entries → length entries < 30 → FitsEntry e
      → count ≡ length entries → k ≡ 16 → m ≡ 32 + 16 * count - (32 + 16 * i) → src ≡ take (32 + 16 * count - (32 + 16 * i)) (drop (32 + 16 * i) page) → row ≡ entry_bytes e
      → node_in (slice_set (put_mid (32 + 16 * i) k (put_mid (32 + 16 * i + 16) m page src) row) 1 (count + 1)) ≡ Some (Leaf (inserted entries i e))
  entry-put entries e i count k m src row node inside few fits same all moved from here =
      let known = leaf_spells page is entries node in
      let last : 32 + 16 * count ≡ 32 + 16 * length entries = omega (arith, same) in
      let room : 16 * (length entries + 1) ≤ 480 = omega (arith, few) in
      let more = length-insert entries i e inside in
      let are : AreEntries (inserted entries i e) = record {
        some = omega (arith, more);
        few = omega (arith, more, few);
        fit = All-append FitsEntry (take i entries) (e ∷ drop i entries) (All-take FitsEntry i entries known.0.fit)
            (All-cons FitsEntry e (drop i entries) fits (All-drop FitsEntry i entries known.0.fit));
      } in
      ap (λ (c : ℕ). node_in (slice_set (put_mid (32 + 16 * i) k (put_mid (32 + 16 * i + 16) m page src) row) 1 (c + 1))) same
      ∙ ap node_in (row_put entry_bytes 1 16 length-entry_bytes entries e i (32 + 16 * i) (32 + 16 * count) k m page src row inside known.1 room refl last all moved from here)
      ∙ leaf_is_read (inserted entries i e) are

  -- an inner node with another branch at a place
  pub branch-set : (branches : List Branch) (b : Branch) (i k : ℕ) (row : List ℕ) → node_in page ≡ Some (Inner branches) → i < length branches → FitsBranch b → k ≡ 32 → row ≡ branch_bytes b
      → node_in (put_mid (32 + 32 * i) k page row) ≡ Some (Inner (replace_range branches i (i + 1) (b ∷ [])))
  branch-set branches b i k row node inside fits all here =
      let known = inner_spells page is branches node in
      let new = replace_range branches i (i + 1) (b ∷ []) in
      let same : length new ≡ length branches =
      omega (
        arith,
        inside,
        length-append (take i branches ++ b ∷ []) (drop (i + 1) branches),
        length-append (take i branches) (b ∷ []),
        length-take-le i branches (omega (arith, inside)),
        length-drop (i + 1) branches,
      ) in
      let are : AreBranches new = record {
        some = omega (arith, same, known.0.some);
        few = omega (arith, same, known.0.few);
        fit = All-append FitsBranch (take i branches ++ b ∷ []) (drop (i + 1) branches)
            (All-append FitsBranch (take i branches) (b ∷ []) (All-take FitsBranch i branches known.0.fit) (All-cons FitsBranch b [] fits (All-nil FitsBranch)))
            (All-drop FitsBranch (i + 1) branches known.0.fit);
      } in
      ap node_in (row_set branch_bytes 2 32 length-branch_bytes branches b i (32 + 32 * i) k page row inside known.1 refl all here) ∙ inner_is_read new are
