-- Lists of rows, one for each collection, as the members of a state: what an insertion and a removal leave.
use Rattle.std.proofs.Common.{◌≡◌, ℕ, ◌+◌, ◌<◌, None, List, [], ◌∷◌, ◌++◌, map, length, get_or, All, IsPermutation, sym, ap, subst, ◌∙◌, arith}
use Rattle.std.specs.Prelude.{◌^◌, slice_set, sum_by}
use Rattle.std.specs.List.{AllByRecursion, insert, remove}
use Rattle.std.specs.Option.{option_map}
use Rattle.std.proofs.lemmas.List.{map-set, length-map, get_or-map}
use Rattle.std.proofs.lemmas.List.Elements.{All-map, recursion_from_All}
use Rattle.std.proofs.lemmas.List.Sorted.{IsPermutation-refl, IsPermutation-sym, IsPermutation-trans, IsPermutation-map, IsPermutation-to_front, All-permutation, length_permutation}
use Rattle.std.proofs.lemmas.List.Sums.{sum_by-set}
use Rattle.spb_defs.specs.Pivots.{cells_of}
use Rattle.spb_defs.specs.State.{with_object, without_object}
use Rattle.pivot_map.specs.declared.row.Row.{Row}
use Rattle.pivot_map.specs.Rows.{entry_of, entries_of, AreRows}
use Rattle.row_table.specs.Tables.{rows_without, HasDistinctIds}
use Rattle.row_table.specs.TableLaws.{HasDistinctIds-permutation}
use Rattle.row_table.specs.Members.{rows_at, members_of-rows_without, AreRows-push, AreRows-rows_without}
use Rattle.scan_laws.specs.Tables.{HasDistinctEntryIds, members_of, table_at, object_with_id}
use Rattle.scan_laws.specs.Entries.{object_with_id-map, HasDistinctEntryIds-map}
use Rattle.scan_laws.specs.Members.{members_of-more}
use Rattle.row_list.specs.Lists.{IsPlaceOf, IsPlaceFor}
use Rattle.row_list.specs.ListLaws.{insert-permutation, row_with-absent, rows_without-remove, length-remove_one}

-- rows in another order
pub AreRows-permutation : (admitted : List ℕ → Type 0) (dist : List ℕ → List ℕ → ℕ) (pivots : List (List ℕ)) (rows others : List Row)
    → IsPermutation rows others → AreRows admitted dist pivots rows → AreRows admitted dist pivots others
AreRows-permutation admitted dist pivots rows others moved are = record {
  few = let many = length_permutation rows others moved in let few = are.few in omega (arith, many, few);
  objects = All-permutation (λ (row : Row). admitted row.object) rows others moved are.objects;
  vects = All-permutation (λ (row : Row). row.vect ≡ cells_of dist pivots row.object) rows others moved are.vects;
  ids = HasDistinctIds-permutation rows others are.ids moved;
}

-- ---- a row more

-- a row behind the others goes to its place
inserted : (rows : List Row) (place : ℕ) (row : Row) → IsPermutation (rows ++ row ∷ []) (insert rows place row)
inserted rows place row = IsPermutation-trans (rows ++ row ∷ []) (row ∷ rows) (insert rows place row) (IsPermutation-to_front rows row)
    (IsPermutation-sym (insert rows place row) (row ∷ rows) (insert-permutation rows place row))

pub AreRows-insert : (admitted : List ℕ → Type 0) (dist : List ℕ → List ℕ → ℕ) (pivots : List (List ℕ)) (rows : List Row) (place : ℕ) (row : Row)
    → AreRows admitted dist pivots rows → length rows < 2 ^ 31 → IsPlaceFor rows row.id place
    → admitted row.object → row.vect ≡ cells_of dist pivots row.object → AreRows admitted dist pivots (insert rows place row)
AreRows-insert admitted dist pivots rows place row are room at valid cells =
    AreRows-permutation admitted dist pivots (rows ++ row ∷ []) (insert rows place row) (inserted rows place row)
    (AreRows-push admitted dist pivots rows row are room (row_with-absent rows row.id place at) valid cells)

-- the entries of one list, and the ids of all
entries_at : (lists : List (List Row)) (c : ℕ) → c < length lists → table_at (map entries_of lists) c ≡ entries_of (rows_at lists c)
entries_at lists c below = get_or-map entries_of lists c [] [] below

have_ids : (lists : List (List Row)) → All HasDistinctIds lists → AllByRecursion HasDistinctEntryIds (map entries_of lists)
have_ids lists distinct = recursion_from_All HasDistinctEntryIds (map entries_of lists)
    (All-map HasDistinctEntryIds entries_of lists (λ k d below. HasDistinctEntryIds-map entry_of (get_or lists k d) (distinct k d below)))

-- a list with one more row, at its place
module _ (lists : List (List Row)) (c place : ℕ) (row : Row) (rows : List Row) (below : c < length lists) (is : rows ≡ insert (rows_at lists c) place row) where
  pub members_of-inserted : All HasDistinctIds lists → IsPlaceFor (rows_at lists c) row.id place
      → members_of (map entries_of (slice_set lists c rows)) ≡ with_object (members_of (map entries_of lists)) c row.id row.object
  members_of-inserted distinct at =
      let es = map entries_of lists in
      let old = rows_at lists c in
      let same : table_at es c ≡ entries_of old = entries_at lists c below in
      let absent : object_with_id (table_at es c) row.id ≡ None =
      ap (λ rows. object_with_id rows row.id) same ∙ object_with_id-map entry_of old row.id
      ∙ ap (option_map (λ (row : Row). row.object)) (row_with-absent old row.id place at) in
      let moved : IsPermutation (entries_of (insert old place row)) (entry_of row ∷ table_at es c) =
      subst (λ entries. IsPermutation (entries_of (insert old place row)) (entry_of row ∷ entries)) (sym same)
      (IsPermutation-map entry_of (insert old place row) (row ∷ old) (insert-permutation old place row)) in
      ap members_of (map-set entries_of lists c rows)
      ∙ members_of-more es c row.id row.object (entries_of rows) (have_ids lists distinct)
      (let many = length-map lists entries_of in omega (arith, many, below)) absent
      (subst (λ rows. IsPermutation (entries_of rows) (entry_of row ∷ table_at es c)) (sym is) moved)

  pub sum-inserted : sum_by length (slice_set lists c rows) ≡ sum_by length lists + 1
  sum-inserted =
      let all = sum_by-set length lists c rows [] below in
      let one = ap length is in
      let more = length_permutation (insert (rows_at lists c) place row) (row ∷ rows_at lists c) (insert-permutation (rows_at lists c) place row) in
      omega (arith, all, one, more)

-- ---- a row less

-- the rows of other ids are left
removed : (rows : List Row) (place : ℕ) (d : Row) → HasDistinctIds rows → place < length rows
    → IsPermutation (rows_without (get_or rows place d).id rows) (remove rows place)
removed rows place d distinct below =
    subst (IsPermutation (rows_without (get_or rows place d).id rows)) (rows_without-remove rows place d distinct below)
    (IsPermutation-refl (rows_without (get_or rows place d).id rows))

pub AreRows-remove : (admitted : List ℕ → Type 0) (dist : List ℕ → List ℕ → ℕ) (pivots : List (List ℕ)) (rows : List Row) (place : ℕ)
    → AreRows admitted dist pivots rows → place < length rows → AreRows admitted dist pivots (remove rows place)
AreRows-remove admitted dist pivots [] place are below = absurd (omega (arith, below))
AreRows-remove admitted dist pivots (first ∷ rest) place are below =
    let rows = first ∷ rest in
    AreRows-rows_without admitted dist pivots rows (remove rows place) (get_or rows place first).id (removed rows place first are.ids below) are

-- a list without the row of an id, which is at this place
module _ (lists : List (List Row)) (c id place : ℕ) (left : List Row) (below : c < length lists) (is : left ≡ remove (rows_at lists c) place)
    (at : IsPlaceOf (rows_at lists c) id place) where
  pub members_of-removed : All HasDistinctIds lists
      → members_of (map entries_of (slice_set lists c left)) ≡ without_object (members_of (map entries_of lists)) c id
  members_of-removed distinct =
      members_of-rows_without lists c id left below (moved (rows_at lists c) at (distinct c [] below) is) distinct
    where
      moved : (rows : List Row) → IsPlaceOf rows id place → HasDistinctIds rows → left ≡ remove rows place → IsPermutation (rows_without id rows) left
      moved [] at distinct is = let within = at.within in absurd (omega (arith, within))
      moved (first ∷ rest) at distinct is =
          let rows = first ∷ rest in
          subst (λ n. IsPermutation (rows_without n rows) left) (at.is first)
          (subst (IsPermutation (rows_without (get_or rows place first).id rows)) (sym is) (removed rows place first distinct at.within))

  pub sum-removed : sum_by length (slice_set lists c left) + 1 ≡ sum_by length lists
  sum-removed =
      let all = sum_by-set length lists c left [] below in
      let one = ap length is in
      let less = length-remove_one (rows_at lists c) place at.within in omega (arith, all, one, less)
