-- Tables of rows, one for each collection, as the members of a state: what a look-up, an addition and a removal find
-- and leave.
use Rattle.std.proofs.Common.{◌≡◌, ℕ, ◌+◌, ◌<◌, ◌≤◌, Some, None, List, [], ◌∷◌, ◌++◌, map, length, All, IsPermutation, refl, sym, ap, subst, ◌∙◌, zero, suc, arith}
use Rattle.std.specs.Prelude.{◌^◌, not, slice_index_or, slice_set, sum_by}
use Rattle.std.specs.List.{AllByRecursion}
use Rattle.std.specs.Map.{lookup}
use Rattle.std.specs.BTreeMap.{is_at}
use Rattle.std.specs.Option.{option_map}
use Rattle.std.proofs.lemmas.List.{map-set, map-append, length-map, length-append}
use Rattle.std.proofs.lemmas.List.Elements.{All-push, All-filter}
use Rattle.std.proofs.lemmas.List.Sorted.{IsPermutation-sym, All-permutation, length_permutation}
use Rattle.std.proofs.lemmas.List.Sums.{sum_by-cons, sum_by-set}
use Rattle.spb_defs.specs.Pivots.{cells_of}
use Rattle.spb_defs.specs.Scans.{Entry}
use Rattle.spb_defs.specs.State.{key_cmp, with_object, without_object, member_count, entries_in}
use Rattle.pivot_map.specs.declared.row.Row.{Row}
use Rattle.pivot_map.specs.Rows.{entry_of, entries_of, AreRows}
use Rattle.row_table.specs.Tables.{has_id, row_with, rows_without, HasDistinctIds}
use Rattle.row_table.specs.TableLaws.{HasDistinctIds-push, HasDistinctIds-rows_without, HasDistinctIds-permutation, rows_without-length}
use Rattle.scan_laws.specs.Tables.{HasDistinctEntryIds, members_of, table_at, object_with_id, entries_without}
use Rattle.scan_laws.specs.Entries.{object_with_id-map, entries_without-moved, HasDistinctEntryIds-map}
use Rattle.scan_laws.specs.Members.{object_at-members_of, members_of-added, members_of-removed, member_count-members_of, length-members_of, entries_in-members_of}

-- the rows of a collection
abbrev pub rows_at : List (List Row) → ℕ → List Row
rows_at tables c = slice_index_or tables c []

entries_at : (tables : List (List Row)) (c : ℕ) → table_at (map entries_of tables) c ≡ entries_of (rows_at tables c)
entries_at [] c = refl
entries_at (rows ∷ tables) zero = refl
entries_at (rows ∷ tables) (suc c) = entries_at tables c

have_ids : (tables : List (List Row)) → All HasDistinctIds tables → AllByRecursion HasDistinctEntryIds (map entries_of tables)
have_ids [] h = tt
have_ids (rows ∷ tables) h = (HasDistinctEntryIds-map entry_of rows (h 0 [] (omega arith)), have_ids tables (λ k d below. h (suc k) d (omega (arith, below))))

-- ---- what the members say of the rows

-- the object under a key is that of the row with the id
pub object_under : (tables : List (List Row)) (c id : ℕ)
    → lookup (is_at (key_cmp (c, id))) (members_of (map entries_of tables)) ≡ option_map (λ (row : Row). row.object) (row_with id (rows_at tables c))
object_under tables c id = object_at-members_of (map entries_of tables) c id ∙ ap (λ rows. object_with_id rows id) (entries_at tables c)
    ∙ object_with_id-map entry_of (rows_at tables c) id

pub count_under : (tables : List (List Row)) (c : ℕ) → member_count (members_of (map entries_of tables)) c ≡ length (rows_at tables c)
count_under tables c = member_count-members_of (map entries_of tables) c ∙ ap length (entries_at tables c) ∙ length-map (rows_at tables c) entry_of

sizes : (tables : List (List Row)) → sum_by length (map entries_of tables) ≡ sum_by length tables
sizes [] = refl
sizes (rows ∷ tables) =
    let one = length-map rows entry_of in
    let rest = sizes tables in
    let left = sum_by-cons length (entries_of rows) (map entries_of tables) in
    let right = sum_by-cons length rows tables in omega (arith, one, rest, left, right)

pub length_under : (tables : List (List Row)) → length (members_of (map entries_of tables)) ≡ sum_by length tables
length_under tables = length-members_of (map entries_of tables) ∙ sizes tables

-- the rows of a collection, in another order
pub rows_under : (tables : List (List Row)) (c : ℕ) → IsPermutation (entries_in (members_of (map entries_of tables)) c) (entries_of (rows_at tables c))
rows_under tables c = subst (λ (rows : List Entry). IsPermutation (entries_in (members_of (map entries_of tables)) c) rows) (entries_at tables c)
    (entries_in-members_of (map entries_of tables) c)

-- a table has no more rows than all tables together
pub length-part : (tables : List (List Row)) (c : ℕ) → length (rows_at tables c) ≤ sum_by length tables
length-part [] c = omega arith
length-part (rows ∷ tables) zero = let all = sum_by-cons length rows tables in omega (arith, all)
length-part (rows ∷ tables) (suc c) = let all = sum_by-cons length rows tables in let rest = length-part tables c in omega (arith, all, rest)

-- ---- a row more

-- a table with one more row, under an id that it didn't have
module _ (tables : List (List Row)) (c : ℕ) (row : Row) (rows : List Row) (below : c < length tables) (is : rows ≡ rows_at tables c ++ row ∷ []) where
  pub members_of-pushed : All HasDistinctIds tables → row_with row.id (rows_at tables c) ≡ None
      → members_of (map entries_of (slice_set tables c rows)) ≡ with_object (members_of (map entries_of tables)) c row.id row.object
  members_of-pushed distinct none =
      let es = map entries_of tables in
      let grown : entries_of rows ≡ table_at es c ++ entry_of row ∷ [] =
      ap entries_of is ∙ map-append entry_of (rows_at tables c) (row ∷ []) ∙ ap (λ es. es ++ entry_of row ∷ []) (sym (entries_at tables c)) in
      let absent : object_with_id (table_at es c) row.id ≡ None =
      ap (λ rows. object_with_id rows row.id) (entries_at tables c) ∙ object_with_id-map entry_of (rows_at tables c) row.id
      ∙ ap (option_map (λ (row : Row). row.object)) none in
      ap members_of (map-set entries_of tables c rows ∙ ap (slice_set es c) grown)
      ∙ members_of-added es c row.id row.object (have_ids tables distinct) (let many = length-map tables entries_of in omega (arith, many, below)) absent

  pub sum-pushed : sum_by length (slice_set tables c rows) ≡ sum_by length tables + 1
  sum-pushed =
      let all = sum_by-set length tables c rows [] below in
      let one = ap length is ∙ length-append (rows_at tables c) (row ∷ []) in omega (arith, all, one)

pub AreRows-push : (admitted : List ℕ → Type 0) (dist : List ℕ → List ℕ → ℕ) (pivots : List (List ℕ)) (rows : List Row) (row : Row)
    → AreRows admitted dist pivots rows → length rows < 2 ^ 31 → row_with row.id rows ≡ None
    → admitted row.object → row.vect ≡ cells_of dist pivots row.object → AreRows admitted dist pivots (rows ++ row ∷ [])
AreRows-push admitted dist pivots rows row are room none valid cells = record {
  few = let more = length-append rows (row ∷ []) in omega (arith, more, room);
  objects = All-push (λ (row : Row). admitted row.object) rows row are.objects valid;
  vects = All-push (λ (row : Row). row.vect ≡ cells_of dist pivots row.object) rows row are.vects cells;
  ids = HasDistinctIds-push rows row are.ids none;
}

-- ---- a row less

-- a table without the row of an id
module _ (tables : List (List Row)) (c id : ℕ) (left : List Row) (below : c < length tables) (moved : IsPermutation (rows_without id (rows_at tables c)) left)
  where
    pub members_of-rows_without : All HasDistinctIds tables
        → members_of (map entries_of (slice_set tables c left)) ≡ without_object (members_of (map entries_of tables)) c id
    members_of-rows_without distinct =
        let es = map entries_of tables in
        ap members_of (map-set entries_of tables c left)
        ∙ members_of-removed es c id (entries_of left) (have_ids tables distinct) (let many = length-map tables entries_of in omega (arith, many, below))
        (subst (λ (rows : List Entry). IsPermutation (entries_without rows id) (entries_of left)) (sym (entries_at tables c))
        (entries_without-moved entry_of (rows_at tables c) left id moved))

    pub sum-rows_without : sum_by length (slice_set tables c left) ≤ sum_by length tables
    sum-rows_without =
        let all = sum_by-set length tables c left [] below in
        let many = length_permutation (rows_without id (rows_at tables c)) left moved in
        let less = rows_without-length (rows_at tables c) id in omega (arith, all, many, less)

pub AreRows-rows_without : (admitted : List ℕ → Type 0) (dist : List ℕ → List ℕ → ℕ) (pivots : List (List ℕ)) (rows left : List Row) (id : ℕ)
    → IsPermutation (rows_without id rows) left → AreRows admitted dist pivots rows → AreRows admitted dist pivots left
AreRows-rows_without admitted dist pivots rows left id moved are =
    let others = λ (row : Row). not (has_id id row) in
    record {
      few = let many = length_permutation (rows_without id rows) left moved in let less = rows_without-length rows id in let few = are.few in
          omega (arith, many, less, few);
      objects = All-permutation (λ (row : Row). admitted row.object) _ left moved (All-filter others (λ (row : Row). admitted row.object) rows are.objects);
      vects = All-permutation (λ (row : Row). row.vect ≡ cells_of dist pivots row.object) _ left moved
          (All-filter others (λ (row : Row). row.vect ≡ cells_of dist pivots row.object) rows are.vects);
      ids = HasDistinctIds-permutation (rows_without id rows) left (HasDistinctIds-rows_without rows id are.ids) moved;
    }
