-- Rows in order of id: what a search says, and what insertion and removal leave.
use Rattle.std.proofs.Common.{◌≡◌, ◌≢◌, ℕ, ◌+◌, ◌<◌, ◌≤◌, true, false, Some, None, List, [], ◌∷◌, length, get_or, take, drop, IsPermutation, ⊎_elim, refl, sym, ap, subst, ◌∙◌, zero, suc, arith}
use Rattle.std.specs.List.{insert, remove}
use Rattle.std.proofs.lemmas.Bool.{cases_lt}
use Rattle.std.proofs.lemmas.List.{get_or_default, take-append-drop}
use Rattle.std.proofs.lemmas.List.Sorted.{IsPermutation-refl, IsPermutation-cons, IsPermutation-trans, IsPermutation-middle, IsPermutation-map, IsPermutation-sym}
use Rattle.pivot_map.specs.declared.row.Row.{Row}
use Rattle.row_table.specs.Tables.{has_id, row_with, rows_without, HasDistinctIds}
use Rattle.row_table.specs.TableLaws.{equal, not_equal, row_with-Contains, rows_without-cons, without_absent, HasDistinctIds-permutation}
use Rattle.row_table.specs.Finding.{find-none}
use Rattle.row_list.specs.declared.sorting.SlottedRow.{SlottedRow}
use Rattle.row_list.specs.Slotted.{rows_of, slots_of}
use Rattle.row_list.specs.Lists.{IsInOrder, IsListed, IsPlaceOf, IsPlaceFor, slotted}

pub HasDistinctIds-in_order : (rows : List Row) → IsInOrder rows → HasDistinctIds rows
HasDistinctIds-in_order rows order i j d less below same = omega (arith, order i j d less below, same)

-- ---- what a search says

pub row_with-found : (rows : List Row) (id place : ℕ) (d : Row) → IsInOrder rows → IsPlaceOf rows id place → row_with id rows ≡ Some (get_or rows place d)
row_with-found rows id place d order at =
    let row = get_or rows place d in
    ap (λ n. row_with n rows) (sym (at.is d))
    ∙ row_with-Contains rows (HasDistinctIds-in_order rows order) row (place, at.within, get_or_default rows place row d at.within)

pub row_with-absent : (rows : List Row) (id place : ℕ) → IsPlaceFor rows id place → row_with id rows ≡ None
row_with-absent rows id place at =
    find-none (has_id id) rows (λ k d below. not_equal (get_or rows k d).id id (λ same. apart k d below same))
  where
    apart : (k : ℕ) (d : Row) → k < length rows → (get_or rows k d).id ≢ id
    apart k d below same =
        ⊎_elim (λ (less : k < place). omega (arith, at.lower k d less, same)) (λ ge. omega (arith, at.greater k d ge below, same)) (cases_lt k place)

-- ---- a row more

-- in another order, it is a row before the others
pub insert-permutation : {X : Type 0} (xs : List X) (place : ℕ) (x : X) → IsPermutation (insert xs place x) (x ∷ xs)
insert-permutation xs place x =
    subst (λ ys. IsPermutation (insert xs place x) (x ∷ ys)) (take-append-drop place xs) (IsPermutation-middle (take place xs) x (drop place xs))

-- ---- a row less

-- the rows without that of a place are those of other ids
pub rows_without-remove : (rows : List Row) (place : ℕ) (d : Row) → HasDistinctIds rows → place < length rows
    → rows_without (get_or rows place d).id rows ≡ remove rows place
rows_without-remove [] place d distinct below = absurd (omega (arith, below))
rows_without-remove (row ∷ rows) zero d distinct below =
    rows_without-cons row rows row.id true (equal row.id row.id refl)
    ∙ without_absent rows row.id (find-none (has_id row.id) rows (λ k e under. not_equal (get_or rows k e).id row.id (λ same.
    distinct 0 (suc k) e (omega arith) (omega (arith, under)) (sym same))))
rows_without-remove (row ∷ rows) (suc place) d distinct below =
    rows_without-cons row rows (get_or rows place d).id false
    (not_equal row.id (get_or rows place d).id (distinct 0 (suc place) d (omega arith) below))
    ∙ ap (λ more. row ∷ more) (rows_without-remove rows place d
    (λ i j e less under. distinct (suc i) (suc j) e (omega (arith, less)) (omega (arith, under))) (omega (arith, below)))

-- in another order, the items are that of a place before the others
pub remove-permutation : {X : Type 0} (xs : List X) (place : ℕ) (d : X) → place < length xs → IsPermutation xs (get_or xs place d ∷ remove xs place)
remove-permutation [] place d below = absurd (omega (arith, below))
remove-permutation (x ∷ xs) zero d below = IsPermutation-refl (x ∷ xs)
remove-permutation (x ∷ xs) (suc place) d below =
    let y = get_or xs place d in
    IsPermutation-trans (x ∷ xs) (x ∷ y ∷ remove xs place) (y ∷ x ∷ remove xs place)
    (IsPermutation-cons x xs (y ∷ remove xs place) (remove-permutation xs place d (omega (arith, below))))
    (IsPermutation-middle (x ∷ []) y (remove xs place))

pub length-remove_one : {X : Type 0} (xs : List X) (place : ℕ) → place < length xs → length (remove xs place) + 1 ≡ length xs
length-remove_one [] place below = absurd (omega (arith, below))
length-remove_one (x ∷ xs) zero below = omega arith
length-remove_one (x ∷ xs) (suc place) below = let rest = length-remove_one xs place (omega (arith, below)) in omega (arith, rest)

-- ---- rows with their slots

pub rows_of-slotted : (rows : List Row) (slots : List ℕ) → length slots ≡ length rows → rows_of (slotted rows slots) ≡ rows
rows_of-slotted [] slots long = refl
rows_of-slotted (row ∷ rows) [] long = absurd (omega (arith, long))
rows_of-slotted (row ∷ rows) (slot ∷ slots) long = ap (λ more. row ∷ more) (rows_of-slotted rows slots (omega (arith, long)))

pub slots_of-slotted : (rows : List Row) (slots : List ℕ) → length slots ≡ length rows → slots_of (slotted rows slots) ≡ slots
slots_of-slotted [] [] long = refl
slots_of-slotted [] (slot ∷ slots) long = absurd (omega (arith, long))
slots_of-slotted (row ∷ rows) [] long = absurd (omega (arith, long))
slots_of-slotted (row ∷ rows) (slot ∷ slots) long = ap (λ more. slot ∷ more) (slots_of-slotted rows slots (omega (arith, long)))

-- the row and the slot of a place
pub slotted-at : (rows : List Row) (slots : List ℕ) (place : ℕ) (d : SlottedRow) (e : Row) → length slots ≡ length rows → place < length rows
    → get_or (slotted rows slots) place d ≡ record { slot = get_or slots place 0; row = get_or rows place e }
slotted-at [] slots place d e long below = absurd (omega (arith, below))
slotted-at (row ∷ rows) [] place d e long below = absurd (omega (arith, long))
slotted-at (row ∷ rows) (slot ∷ slots) zero d e long below = refl
slotted-at (row ∷ rows) (slot ∷ slots) (suc place) d e long below = slotted-at rows slots place d e (omega (arith, long)) (omega (arith, below))

pub slotted-insert : (rows : List Row) (slots : List ℕ) (place : ℕ) (row : Row) (slot : ℕ) → length slots ≡ length rows → place ≤ length rows
    → slotted (insert rows place row) (insert slots place slot) ≡ insert (slotted rows slots) place (record { slot = slot; row = row })
slotted-insert [] [] zero row slot long within = refl
slotted-insert [] [] (suc place) row slot long within = absurd (omega (arith, within))
slotted-insert [] (s ∷ slots) place row slot long within = absurd (omega (arith, long))
slotted-insert (r ∷ rows) [] place row slot long within = absurd (omega (arith, long))
slotted-insert (r ∷ rows) (s ∷ slots) zero row slot long within = refl
slotted-insert (r ∷ rows) (s ∷ slots) (suc place) row slot long within =
    ap (λ more. record { slot = s; row = r } ∷ more) (slotted-insert rows slots place row slot (omega (arith, long)) (omega (arith, within)))

pub slotted-remove : (rows : List Row) (slots : List ℕ) (place : ℕ) → length slots ≡ length rows → place < length rows
    → slotted (remove rows place) (remove slots place) ≡ remove (slotted rows slots) place
slotted-remove [] slots place long below = absurd (omega (arith, below))
slotted-remove (r ∷ rows) [] place long below = absurd (omega (arith, long))
slotted-remove (r ∷ rows) (s ∷ slots) zero long below = refl
slotted-remove (r ∷ rows) (s ∷ slots) (suc place) long below =
    ap (λ more. record { slot = s; row = r } ∷ more) (slotted-remove rows slots place (omega (arith, long)) (omega (arith, below)))

-- rows that a list was made of have distinct ids
pub HasDistinctIds-listed : (given : List SlottedRow) (rows : List Row) (slots : List ℕ) → IsListed rows slots → IsPermutation given (slotted rows slots)
    → HasDistinctIds (rows_of given)
HasDistinctIds-listed given rows slots listed moved =
    HasDistinctIds-permutation rows (rows_of given) (HasDistinctIds-in_order rows listed.order)
    (subst (λ others. IsPermutation others (rows_of given)) (rows_of-slotted rows slots listed.same_length)
    (IsPermutation-map (λ (row : SlottedRow). row.row) (slotted rows slots) given (IsPermutation-sym given (slotted rows slots) moved)))
