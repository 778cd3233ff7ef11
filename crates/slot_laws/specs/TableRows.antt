-- The tables of slots as lists: their rows without slots, and a table put in the place of another.
use Rattle.std.proofs.Common.{◌≡◌, ℕ, zero, suc, ◌<◌, List, [], ◌∷◌, length, map, get_or, refl, sym, ap, subst, ◌∙◌, arith}
use Rattle.std.specs.Prelude.{slice_set, AllPairs, Contains}
use Rattle.std.specs.List.{insert, remove, zip}
use Rattle.std.specs.List.Sorted.{IsPermutation}
use Rattle.std.specs.Map.{lookup}
use Rattle.std.specs.BTreeMap.{is_at}
use Rattle.std.proofs.lemmas.List.{get_or-set_same, get_or-set_other}
use Rattle.std.proofs.lemmas.List.Elements.{All-contains}
use Rattle.std.proofs.lemmas.List.Sorted.{IsPermutation-refl, IsPermutation-cons, IsPermutation-trans, IsPermutation-middle}
use Rattle.std.proofs.lemmas.Slice.Zip.{get_or-zip, seconds-zip}
use Rattle.metrics_builtin.specs.declared.Space.{Space}
use Rattle.spb_defs.specs.State.{Members, key_cmp}
use Rattle.spb_defs.specs.Scans.{Entry}
use Rattle.object_file.specs.Slots.{Slot, Holds}
use Rattle.scan_laws.specs.Tables.{HasDistinctEntryIds, table_at, object_with_id}
use Rattle.scan_laws.specs.Members.{object_at-members_of}
use Rattle.store_check.specs.Stands.{HoldsMembers}
use Rattle.store_check.specs.Damage.{HoldsAgain}
use Rattle.slot_laws.specs.SlotTables.{SlotRow, entries_of, slot_table, IsTableIn, AreTablesIn, AreTablesOf, GainsRow}
use Rattle.slot_laws.specs.SlotTableLaws.{tables_give_members, rows_are_in_slots}

-- the rows of a collection's table without their slots
pub entries_of_table : (tables : List (List SlotRow)) (c : ℕ) → table_at (map entries_of tables) c ≡ entries_of (slot_table tables c)
entries_of_table [] c = refl
entries_of_table (table ∷ tables) zero = refl
entries_of_table (table ∷ tables) (suc c) = entries_of_table tables c

-- the object under a key is that of the first row of the collection's table with the id
pub tables_find_objects : (space : Space) (cap c id : ℕ) (home : ℕ → List ℕ) (members : Members) (tables : List (List SlotRow))
    → HoldsMembers space cap home members → length tables ≡ 4 → AreTablesOf cap home tables
    → lookup (is_at (key_cmp (c, id))) members ≡ object_with_id (entries_of (slot_table tables c)) id
tables_find_objects space cap c id home members tables holds long are =
    ap (lookup (is_at (key_cmp (c, id)))) (tables_give_members space cap home members tables holds long are)
    ∙ object_at-members_of (map entries_of tables) c id
    ∙ ap (λ rows. object_with_id rows id) (entries_of_table tables c)

-- a table with one row more in its place
pub gains_row : (tables : List (List SlotRow)) (c : ℕ) (row : SlotRow) (more : List SlotRow) → c < length tables → IsPermutation more (row ∷ slot_table tables c)
    → GainsRow c row tables (slice_set tables c more)
gains_row tables c row more below gained = record {
  here = subst (λ table. IsPermutation table (row ∷ slot_table tables c)) (sym (get_or-set_same tables c more [] below)) gained;
  others = λ d other. get_or-set_other tables c d more [] other;
}

-- a table with one row less in its place
pub loses_row : (tables : List (List SlotRow)) (c : ℕ) (row : SlotRow) (fewer : List SlotRow) → c < length tables → IsPermutation (slot_table tables c) (row ∷ fewer)
    → GainsRow c row (slice_set tables c fewer) tables
loses_row tables c row fewer below lost = record {
  here = subst (λ table. IsPermutation (slot_table tables c) (row ∷ table)) (sym (get_or-set_same tables c fewer [] below)) lost;
  others = λ d other. sym (get_or-set_other tables c d fewer [] other);
}

-- the slot of a row holds it
pub row_is_in_slot : (cap : ℕ) (slots : ℕ → Slot) (c : ℕ) (table : List SlotRow) (slot id : ℕ) (object : List ℕ) → IsTableIn cap slots c table
    → Contains table (slot, (id, object)) → (slot < cap) × (slots slot ≡ Holds c id object)
row_is_in_slot cap slots c table slot id object is has =
    All-contains (λ (row : SlotRow). (row.0 < cap) × (slots row.0 ≡ Holds c row.1.0 row.1.1)) table (slot, (id, object)) (rows_are_in_slots cap slots c table is) has

-- of two rows with one id, the one of the greater slot holds it again
pub repeated_ids_are_held_again : (cap : ℕ) (slots : ℕ → Slot) (c : ℕ) (table : List SlotRow) (lower slot id : ℕ) (first second : List ℕ)
    → IsTableIn cap slots c table → Contains table (lower, (id, first)) → Contains table (slot, (id, second)) → lower < slot → HoldsAgain slots slot
repeated_ids_are_held_again cap slots c table lower slot id first second is has_lower has_slot less = record {
  lower = lower;
  less = less;
  collection = c;
  id = id;
  first = first;
  second = second;
  at_lower = (row_is_in_slot cap slots c table lower id first is has_lower).1;
  at_slot = (row_is_in_slot cap slots c table slot id second is has_slot).1;
}

-- ---- tables in order

-- tables in another order
pub tables_in_another_order : (cap : ℕ) (slots : ℕ → Slot) (tables others : List (List SlotRow)) → AreTablesIn cap slots tables
    → ((c : ℕ) → c < 4 → IsPermutation (slot_table others c) (slot_table tables c)) → AreTablesIn cap slots others
tables_in_another_order cap slots tables others are moved = λ c inside. IsPermutation-trans _ _ _ (moved c inside) (are c inside)

-- ids that rise differ
pub ascending_ids_differ : (entries : List Entry) → AllPairs (λ a b. a.0 < b.0) entries → HasDistinctEntryIds entries
ascending_ids_differ entries rising = λ i j d less inside same. let below = rising i j d less inside in omega (arith, below, same)

-- ---- slots and rows side by side

-- the rows are the second of the two
pub entries_of-zip : (numbers : List ℕ) (entries : List Entry) → length entries ≡ length numbers → entries_of (zip numbers entries) ≡ entries
entries_of-zip numbers entries long = seconds-zip numbers entries long

-- the slot at a place holds the row at the place
pub slot_at_place : (cap : ℕ) (slots : ℕ → Slot) (c : ℕ) (numbers : List ℕ) (entries : List Entry) (place n : ℕ) (row : Entry)
    → IsTableIn cap slots c (zip numbers entries) → length entries ≡ length numbers → place < length entries
    → (get_or numbers place n < cap) × (slots (get_or numbers place n) ≡ Holds c (get_or entries place row).0 (get_or entries place row).1)
slot_at_place cap slots c numbers entries place n row is long below =
    let many : place < length (zip numbers entries) = within numbers entries place long below in
    subst (λ (r : SlotRow). (r.0 < cap) × (slots r.0 ≡ Holds c r.1.0 r.1.1))
    (get_or-zip numbers entries place (n, row) (omega (arith, long, below)) below) (rows_are_in_slots cap slots c (zip numbers entries) is place (n, row) many)
  where
    within : (numbers : List ℕ) (entries : List Entry) (place : ℕ) → length entries ≡ length numbers → place < length entries → place < length (zip numbers entries)
    within [] [] place long below = below
    within [] (e ∷ es) place long below = absurd (omega (arith, long))
    within (m ∷ ms) [] place long below = absurd (omega (arith, long))
    within (m ∷ ms) (e ∷ es) zero long below = omega arith
    within (m ∷ ms) (e ∷ es) (suc place) long below = let more = within ms es place (omega (arith, long)) (omega (arith, below)) in omega (arith, more)

module _ {A B : Type 0} where
  -- a pair more at a place of both
  pub zip-insert : (xs : List A) (ys : List B) (place : ℕ) (x : A) (y : B) → length ys ≡ length xs
      → IsPermutation (zip (insert xs place x) (insert ys place y)) ((x, y) ∷ zip xs ys)
  zip-insert [] [] zero x y long = IsPermutation-refl _
  zip-insert [] [] (suc place) x y long = IsPermutation-refl _
  zip-insert (a ∷ xs) (b ∷ ys) zero x y long = IsPermutation-refl _
  zip-insert (a ∷ xs) (b ∷ ys) (suc place) x y long = IsPermutation-trans _ _ _
      (IsPermutation-cons (a, b) (zip (insert xs place x) (insert ys place y)) ((x, y) ∷ zip xs ys) (zip-insert xs ys place x y (omega (arith, long))))
      (IsPermutation-middle ((a, b) ∷ []) (x, y) (zip xs ys))
  zip-insert [] (b ∷ ys) place x y long = absurd (omega (arith, long))
  zip-insert (a ∷ xs) [] place x y long = absurd (omega (arith, long))

  -- a pair less
  pub zip-remove : (xs : List A) (ys : List B) (place : ℕ) (d : A) (e : B) → length ys ≡ length xs → place < length ys
      → IsPermutation (zip xs ys) ((get_or xs place d, get_or ys place e) ∷ zip (remove xs place) (remove ys place))
  zip-remove [] [] place d e long below = absurd (omega (arith, below))
  zip-remove (a ∷ xs) (b ∷ ys) zero d e long below = IsPermutation-refl _
  zip-remove (a ∷ xs) (b ∷ ys) (suc place) d e long below = IsPermutation-trans _ _ _
      (IsPermutation-cons (a, b) (zip xs ys) ((get_or xs place d, get_or ys place e) ∷ zip (remove xs place) (remove ys place))
      (zip-remove xs ys place d e (omega (arith, long)) (omega (arith, below))))
      (IsPermutation-middle ((a, b) ∷ []) (get_or xs place d, get_or ys place e) (zip (remove xs place) (remove ys place)))
  zip-remove [] (b ∷ ys) place d e long below = absurd (omega (arith, long))
  zip-remove (a ∷ xs) [] place d e long below = absurd (omega (arith, long))
