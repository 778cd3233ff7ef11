-- The rows of a store, as the slots have them, and as the members of a state.
use Rattle.std.proofs.Common.{◌≡◌, ℕ, zero, suc, ◌+◌, ◌<◌, ◌≤◌, List, [], ◌∷◌, map, length, take, get_or, All, refl, sym, ap, subst, ◌∙◌, arith}
use Rattle.std.specs.Prelude.{slice_set}
use Rattle.std.specs.List.{insert}
use Rattle.std.specs.List.Sorted.{IsPermutation}
use Rattle.std.specs.Map.{lookup}
use Rattle.std.specs.BTreeMap.{is_at}
use Rattle.std.specs.Option.{option_map}
use Rattle.std.proofs.lemmas.List.{map-set, length-map, set-get_or}
use Rattle.std.proofs.lemmas.List.Elements.{All-cons}
use Rattle.std.proofs.lemmas.List.Sorted.{IsPermutation-sym, IsPermutation-map, All-permutation, length_permutation}
use Rattle.std.proofs.lemmas.List.Sums.{sum_by-set, sum_by-cons}
use Rattle.metrics_builtin.specs.declared.Space.{Space}
use Rattle.spb_defs.specs.State.{Members, key_cmp, member_count, entries_in}
use Rattle.scan_laws.specs.Members.{entries_in-members_of, member_count-members_of}
use Rattle.scan_laws.specs.Tables as members
use Rattle.scan_laws.specs.Tables.{object_with_id, members_of}
use Rattle.scan_laws.specs.Entries.{object_with_id-map}
use Rattle.pivot_map.specs.declared.row.Row.{Row}
use Rattle.pivot_map.specs.Rows.{entry_of, entries_of}
use Rattle.row_list.specs.declared.sorting.SlottedRow.{SlottedRow}
use Rattle.row_list.specs.Slotted.{rows_of}
use Rattle.row_list.specs.Lists.{ListedRows, IsListed, slotted}
use Rattle.row_list.specs.ListLaws.{insert-permutation, slotted-insert}
use Rattle.store_check.specs.Stands.{HoldsMembers}
use Rattle.slot_laws.specs.SlotTables.{SlotRow, slot_table, AreTablesOf, GainsRow}
use Rattle.slot_laws.specs.SlotTables as tables
use Rattle.slot_laws.specs.TableRows.{entries_of_table, tables_find_objects, gains_row}
use Rattle.slot_laws.specs.SlotTableLaws.{tables_give_members}
use Rattle.open_store.specs.Store.{tables_of, table_at, row_in, slot_row, slot_tables, row_count}

-- ---- the rows as the slots have them

pub slot_table_at : (ts : List (List SlottedRow)) (c : ℕ) → slot_table (slot_tables ts) c ≡ map slot_row (table_at ts c)
slot_table_at [] c = refl
slot_table_at (table ∷ ts) zero = refl
slot_table_at (table ∷ ts) (suc c) = slot_table_at ts c

entries_are : (table : List SlottedRow) → tables.entries_of (map slot_row table) ≡ map entry_of (rows_of table)
entries_are [] = refl
entries_are (row ∷ table) = ap (λ more. entry_of row.row ∷ more) (entries_are table)

-- the object of a member is that of the row under its key
pub object_is : (space : Space) (cap c id : ℕ) (home : ℕ → List ℕ) (members : Members) (ts : List (List SlottedRow)) → HoldsMembers space cap home members
    → length ts ≡ 4 → AreTablesOf cap home (slot_tables ts)
    → lookup (is_at (key_cmp (c, id))) members ≡ option_map (λ (row : Row). row.object) (row_in ts c id)
object_is space cap c id home members ts holds four are =
    tables_find_objects space cap c id home members (slot_tables ts) holds (long ts ∙ four) are
    ∙ ap (λ table. object_with_id (tables.entries_of table) id) (slot_table_at ts c)
    ∙ ap (λ rows. object_with_id rows id) (entries_are (table_at ts c))
    ∙ object_with_id-map entry_of (rows_of (table_at ts c)) id
  where
    long : (xs : List (List SlottedRow)) → length (slot_tables xs) ≡ length xs
    long [] = refl
    long (x ∷ xs) = ap suc (long xs)

entries_in_place : (ts : List (List SlottedRow)) (c : ℕ)
    → members.table_at (map tables.entries_of (slot_tables ts)) c ≡ map entry_of (rows_of (table_at ts c))
entries_in_place ts c =
    entries_of_table (slot_tables ts) c ∙ ap tables.entries_of (slot_table_at ts c) ∙ entries_are (table_at ts c)

-- the rows of a collection are its members
pub rows_are_members : (space : Space) (cap c : ℕ) (home : ℕ → List ℕ) (ms : Members) (ts : List (List SlottedRow)) → HoldsMembers space cap home ms
    → length ts ≡ 4 → AreTablesOf cap home (slot_tables ts) → IsPermutation (entries_in ms c) (entries_of (rows_of (table_at ts c)))
rows_are_members space cap c home ms ts holds four are =
    let all = map tables.entries_of (slot_tables ts) in
    subst (λ xs. IsPermutation (entries_in xs c) (entries_of (rows_of (table_at ts c))))
    (sym (tables_give_members space cap home ms (slot_tables ts) holds (length-map ts (λ (table : List SlottedRow). map slot_row table) ∙ four) are))
    (subst (IsPermutation (entries_in (members_of all) c)) (entries_in_place ts c) (entries_in-members_of all c))

pub count_is : (space : Space) (cap c : ℕ) (home : ℕ → List ℕ) (ms : Members) (ts : List (List SlottedRow)) → HoldsMembers space cap home ms
    → length ts ≡ 4 → AreTablesOf cap home (slot_tables ts) → length (table_at ts c) ≡ member_count ms c
count_is space cap c home ms ts holds four are =
    let all = map tables.entries_of (slot_tables ts) in
    sym (length-map (table_at ts c) (λ (r : SlottedRow). r.row)) ∙ sym (length-map (rows_of (table_at ts c)) entry_of) ∙ ap length (sym (entries_in_place ts c))
    ∙ sym (member_count-members_of all c)
    ∙ ap (λ xs. member_count xs c) (sym (tables_give_members space cap home ms (slot_tables ts) holds (length-map ts (λ (table : List SlottedRow). map slot_row table) ∙ four) are))

-- ---- lists with another one in a collection's place

table_of : ListedRows → List SlottedRow
table_of list = slotted list.rows list.slots

pub tables-set : (lists : List ListedRows) (c : ℕ) (list : ListedRows) → tables_of (slice_set lists c list) ≡ slice_set (tables_of lists) c (slotted list.rows list.slots)
tables-set lists c list = map-set (λ (l : ListedRows). slotted l.rows l.slots) lists c list

pub table-at : (lists : List ListedRows) (c : ℕ) (d : ListedRows) → c < length lists
    → table_at (tables_of lists) c ≡ slotted (get_or lists c d).rows (get_or lists c d).slots
table-at [] c d below = absurd (omega (arith, below))
table-at (list ∷ lists) zero d below = refl
table-at (list ∷ lists) (suc c) d below = table-at lists c d (omega (arith, below))

-- the same rows and slots are the same table
pub tables-same : (lists : List ListedRows) (c : ℕ) (list d : ListedRows) → c < length lists → list.rows ≡ (get_or lists c d).rows
    → list.slots ≡ (get_or lists c d).slots → tables_of (slice_set lists c list) ≡ tables_of lists
tables-same lists c list d below rows slots =
    tables-set lists c list
    ∙ ap (slice_set (tables_of lists) c) (ap (λ rs. slotted rs list.slots) rows ∙ ap (slotted (get_or lists c d).rows) slots ∙ sym (table-at lists c d below))
    ∙ set-get_or (tables_of lists) c []

-- a row more
pub tables-insert : (lists : List ListedRows) (c place slot : ℕ) (row : Row) (list d : ListedRows) → c < length lists
    → IsListed (get_or lists c d).rows (get_or lists c d).slots → place ≤ length (get_or lists c d).rows
    → list.rows ≡ insert (get_or lists c d).rows place row → list.slots ≡ insert (get_or lists c d).slots place slot
    → tables_of (slice_set lists c list) ≡ slice_set (tables_of lists) c (insert (table_at (tables_of lists) c) place (record { slot = slot; row = row }))
tables-insert lists c place slot row list d below listed within rows slots =
    tables-set lists c list
    ∙ ap (slice_set (tables_of lists) c) (ap (λ rs. slotted rs list.slots) rows ∙ ap (slotted (insert (get_or lists c d).rows place row)) slots
    ∙ slotted-insert (get_or lists c d).rows (get_or lists c d).slots place row slot listed.same_length within
    ∙ ap (λ table. insert table place (record { slot = slot; row = row })) (sym (table-at lists c d below)))

-- ---- a table with a row more

pub rows_of-insert : (table : List SlottedRow) (place : ℕ) (row : SlottedRow) → rows_of (insert table place row) ≡ insert (rows_of table) place row.row
rows_of-insert table zero row = refl
rows_of-insert [] (suc place) row = refl
rows_of-insert (r ∷ table) (suc place) row = ap (λ more. r.row ∷ more) (rows_of-insert table place row)

pub All-insert : {X : Type 0} (P : X → Type 0) (xs : List X) (place : ℕ) (x : X) → P x → All P xs → All P (insert xs place x)
All-insert P xs place x one all =
    All-permutation P (x ∷ xs) (insert xs place x) (IsPermutation-sym (insert xs place x) (x ∷ xs) (insert-permutation xs place x)) (All-cons P x xs one all)

pub table_gains : (ts : List (List SlottedRow)) (c place slot id : ℕ) (object : List ℕ) (row : SlottedRow) → c < length ts → row.slot ≡ slot
    → row.row.id ≡ id → row.row.object ≡ object
    → GainsRow c (slot, (id, object)) (slot_tables ts) (slot_tables (slice_set ts c (insert (table_at ts c) place row)))
table_gains ts c place slot id object row below is_slot is_id is_object =
    let more = map slot_row (insert (table_at ts c) place row) in
    let same : slot_row row ≡ (slot, (id, object)) =
    ap (λ n. (n, entry_of row.row)) is_slot ∙ ap (λ n. (slot, (n, row.row.object))) is_id ∙ ap (λ o. (slot, (id, o))) is_object in
    let gained : IsPermutation more (slot_row row ∷ slot_table (slot_tables ts) c) =
    subst (λ table. IsPermutation more (slot_row row ∷ table)) (sym (slot_table_at ts c))
    (IsPermutation-map slot_row (insert (table_at ts c) place row) (row ∷ table_at ts c) (insert-permutation (table_at ts c) place row)) in
    subst (GainsRow c (slot, (id, object)) (slot_tables ts)) (sym (map-set (λ (table : List SlottedRow). map slot_row table) ts c (insert (table_at ts c) place row)))
    (gains_row (slot_tables ts) c (slot, (id, object)) more (long ts c below)
    (subst (λ r. IsPermutation more (r ∷ slot_table (slot_tables ts) c)) same gained))
  where
    long : (xs : List (List SlottedRow)) (k : ℕ) → k < length xs → k < length (slot_tables xs)
    long [] k under = absurd (omega (arith, under))
    long (x ∷ xs) zero under = omega arith
    long (x ∷ xs) (suc k) under = let rest = long xs k (omega (arith, under)) in omega (arith, rest)

pub row_count-insert : (ts : List (List SlottedRow)) (c place : ℕ) (row : SlottedRow) → c < length ts
    → row_count (slice_set ts c (insert (table_at ts c) place row)) ≡ row_count ts + 1
row_count-insert ts c place row below =
    let all = sum_by-set length ts c (insert (table_at ts c) place row) [] below in
    let more = length_permutation (insert (table_at ts c) place row) (row ∷ table_at ts c) (insert-permutation (table_at ts c) place row) in
    omega (arith, all, more)

-- ---- counts

-- the rows of the first tables, with one table more
pub row_count-take : (ts : List (List SlottedRow)) (k : ℕ) → k < length ts → row_count (take (suc k) ts) ≡ row_count (take k ts) + length (table_at ts k)
row_count-take [] k below = absurd (omega (arith, below))
row_count-take (t ∷ ts) zero below = let one = sum_by-cons length t [] in omega (arith, one)
row_count-take (t ∷ ts) (suc k) below =
    let rest = row_count-take ts k (omega (arith, below)) in
    let left = sum_by-cons length t (take (suc k) ts) in
    let right = sum_by-cons length t (take k ts) in
    omega (arith, rest, left, right)
