-- Tables that were read, put in order of id, as the tables of a store.
use Rattle.std.proofs.Common.{◌≡◌, inr, ℕ, zero, suc, ◌+◌, ◌<◌, ◌≤◌, false, List, [], ◌∷◌, map, length, get_or, All, refl, sym, ap, subst, ◌∙◌, arith}
use Rattle.std.specs.Prelude.{◌^◌, AllPairs, Contains}
use Rattle.std.specs.List.Sorted.{IsPermutation}
use Rattle.std.proofs.lemmas.List.{length-map, get_or-map, get_or_default}
use Rattle.std.proofs.lemmas.List.Elements.{All-contains, All-map}
use Rattle.std.proofs.lemmas.List.Sorted.{IsPermutation-sym, IsPermutation-map, All-permutation, length_permutation}
use Rattle.std.proofs.lemmas.List.Sums.{sum_by-cons}
use Rattle.metric_laws.specs.Objects.{Object, Distance}
use Rattle.metrics_builtin.specs.declared.Space.{Space}
use Rattle.spb_defs.specs.Pivots.{cells_of}
use Rattle.spb_defs.specs.Scans.{Entry}
use Rattle.scan_laws.specs.Tables.{HasDistinctEntryIds, key_before}
use Rattle.answer_lists.specs.Order.{sorted_by}
use Rattle.pivot_map.specs.declared.row.Row.{Row}
use Rattle.pivot_map.specs.Rows.{entry_of}
use Rattle.row_list.specs.declared.sorting.SlottedRow.{SlottedRow}
use Rattle.row_list.specs.Slotted.{RepeatsId, rows_of}
use Rattle.row_list.specs.Lists.{ListedRows, IsInOrder, slotted}
use Rattle.row_list.specs.ListLaws.{rows_of-slotted}
use Rattle.page_laws.specs.declared.rule.Rule.TheVariants as rule
use Rattle.object_file.specs.ObjectFile.{slot_at}
use Rattle.store_check.specs.Stands.{HoldsMembers, placed_in, placed_members}
use Rattle.store_check.specs.Damage.{HoldsAgain}
use Rattle.slot_laws.specs.SlotTables.{SlotRow, slot_table, AreTablesIn, AreRead, HaveDistinctIds}
use Rattle.slot_laws.specs.SlotTables as tables
use Rattle.slot_laws.specs.TableRows.{repeated_ids_are_held_again, tables_in_another_order, ascending_ids_differ}
use Rattle.slot_laws.specs.ReadingLaws.{slots_are_read}
use Rattle.open_store.specs.Store.{tables_of, table_at, slot_row, slot_tables, row_count, IsTable}
use Rattle.store_core.specs.declared.errors.OpenError.{OpenError}
use Rattle.store_core.specs.declared.errors.OpenError.TheVariants as refusal
use Rattle.store_core.specs.SlotContents.{IsSlotTable, HasTables, HoldsTables, AreListsOf, HasRepeatIn, RefusesPage, RefusesSlots}

-- ---- tables and lists by their places

slot_table_at : (ts : List (List SlottedRow)) (c : ℕ) → slot_table (slot_tables ts) c ≡ map slot_row (table_at ts c)
slot_table_at [] c = refl
slot_table_at (table ∷ ts) zero = refl
slot_table_at (table ∷ ts) (suc c) = slot_table_at ts c

list_at : (lists : List ListedRows) (c : ℕ) (d : ListedRows) → c < length lists
    → table_at (tables_of lists) c ≡ slotted (get_or lists c d).rows (get_or lists c d).slots
list_at [] c d below = absurd (omega (arith, below))
list_at (list ∷ lists) zero d below = refl
list_at (list ∷ lists) (suc c) d below = list_at lists c d (omega (arith, below))

long : (lists : List ListedRows) → length (tables_of lists) ≡ length lists
long lists = length-map lists (λ (list : ListedRows). slotted list.rows list.slots)

row_count-cons : (t : List SlottedRow) (ts : List (List SlottedRow)) → row_count (t ∷ ts) ≡ length t + row_count ts
row_count-cons t ts = sum_by-cons length t ts

no_list : ListedRows
no_list = record { rows = []; slots = []; has_room = false }

module _ (given : List (List SlottedRow)) (lists : List ListedRows) (are : AreListsOf given lists) where
  there : (c : ℕ) → c < 4 → c < length lists
  there c inside = let four = are.four in omega (arith, four, inside)

  -- the list's rows are those of the table in another order
  moved : (c : ℕ) → c < 4 → IsPermutation (table_at given c) (table_at (tables_of lists) c)
  moved c inside = subst (IsPermutation (table_at given c)) (sym (list_at lists c no_list (there c inside))) (are.each c no_list inside).0

  order : (c : ℕ) → c < 4 → IsInOrder (rows_of (table_at (tables_of lists) c))
  order c inside =
      let list = get_or lists c no_list in
      let listed = (are.each c no_list inside).1 in
      subst IsInOrder (sym (ap rows_of (list_at lists c no_list (there c inside)) ∙ rows_of-slotted list.rows list.slots listed.same_length)) listed.order

  pub four_tables : length (tables_of lists) ≡ 4
  four_tables = long lists ∙ are.four

  -- ---- the tables of a store

  module _ (admitted : Object → Type 0) (dist : Distance) (pivots : List Object) (cap : ℕ) (free : List ℕ)
      (has : HasTables admitted dist pivots cap given free) (few : cap ≤ 65536) where
    held : (c : ℕ) → c < 4 → IsSlotTable admitted dist pivots cap (table_at given c)
    held c inside = has.each c [] (let four = has.four in omega (arith, four, inside))

    -- no table has more rows than all have
    table_fits : (ts : List (List SlottedRow)) (c : ℕ) → length (table_at ts c) ≤ row_count ts
    table_fits [] c = omega arith
    table_fits (t ∷ ts) zero = let all = row_count-cons t ts in omega (arith, all)
    table_fits (t ∷ ts) (suc c) = let all = row_count-cons t ts in let rest = table_fits ts c in omega (arith, all, rest)

    is_table : (c : ℕ) → c < 4 → IsTable admitted dist pivots cap (table_at (tables_of lists) c)
    is_table c inside =
        let old = table_at given c in
        let new = table_at (tables_of lists) c in
        let is = held c inside in
        let fits = table_fits given c in
        let counted = has.counted in
        let many = length_permutation old new (moved c inside) in
        let many_rows = length-map new (λ (row : SlottedRow). row.row) in
        let rising = order c inside in
        record {
          order = rising;
          rows = record {
            few = let small : 65536 ≤ 2 ^ 31 = omega arith in omega (arith, many_rows, many, fits, counted, few, small);
            objects = All-map (λ (row : Row). admitted row.object) (λ (row : SlottedRow). row.row) new
                (All-permutation (λ (row : SlottedRow). admitted row.row.object) old new (moved c inside) is.objects);
            vects = All-map (λ (row : Row). row.vect ≡ cells_of dist pivots row.object) (λ (row : SlottedRow). row.row) new
                (All-permutation (λ (row : SlottedRow). row.row.vect ≡ cells_of dist pivots row.row.object) old new (moved c inside) is.vects);
            ids = λ i j d less within same. let above = rising i j d less within in omega (arith, above, same);
          };
          below = All-permutation (λ (row : SlottedRow). row.slot < cap) old new (moved c inside) is.below;
        }

    pub are_tables : All (IsTable admitted dist pivots cap) (tables_of lists)
    are_tables c d below =
        subst (IsTable admitted dist pivots cap) (get_or_default (tables_of lists) c [] d below) (is_table c (omega (arith, below, four_tables)))

    pub counts : row_count (tables_of lists) ≡ row_count given
    counts = sums given (tables_of lists) (four_tables ∙ sym has.four) (λ c below.
        let inside : c < 4 = let four = has.four in omega (arith, four, below) in
        length_permutation (table_at given c) (table_at (tables_of lists) c) (moved c inside))
      where
        sums : (xs ys : List (List SlottedRow)) → length ys ≡ length xs → ((c : ℕ) → c < length xs → length (table_at ys c) ≡ length (table_at xs c))
            → row_count ys ≡ row_count xs
        sums [] [] same each = refl
        sums [] (y ∷ ys) same each = absurd (omega (arith, same))
        sums (x ∷ xs) [] same each = absurd (omega (arith, same))
        sums (x ∷ xs) (y ∷ ys) same each =
            let first = each 0 (omega arith) in
            let rest = sums xs ys (omega (arith, same)) (λ c below. each (suc c) (omega (arith, below))) in
            let old = row_count-cons x xs in
            let new = row_count-cons y ys in omega (arith, first, rest, old, new)

  -- ---- the members

  entries_are : (table : List SlottedRow) → tables.entries_of (map slot_row table) ≡ map entry_of (rows_of table)
  entries_are [] = refl
  entries_are (row ∷ table) = ap (λ more. entry_of row.row ∷ more) (entries_are table)

  distinct : HaveDistinctIds (slot_tables (tables_of lists))
  distinct c inside =
      let table = table_at (tables_of lists) c in
      subst HasDistinctEntryIds (sym (ap tables.entries_of (slot_table_at (tables_of lists) c) ∙ entries_are table))
      (ascending_ids_differ (map entry_of (rows_of table)) (rising (rows_of table) (order c inside)))
    where
      rising : (rows : List Row) → IsInOrder rows → AllPairs (λ (a b : Entry). a.0 < b.0) (map entry_of rows)
      rising rows in_order i j d less within =
          let none : Row = record { id = 0; object = []; vect = [] } in
          let many = length-map rows entry_of in
          let first = get_or-map entry_of rows i none d (omega (arith, less, within, many)) in
          let second = get_or-map entry_of rows j none d (omega (arith, within, many)) in
          let above = in_order i j none less (omega (arith, within, many)) in
          subst (λ (e : Entry). e.0 < (get_or (map entry_of rows) j d).0) (sym first)
          (subst (λ (e : Entry). (get_or rows i none).id < e.0) (sym second) above)

  module _ (space : Space) (cap : ℕ) (pages : ℕ → List ℕ) (free : List ℕ) (read : HoldsTables space cap pages given free) where
    pub rows_are : AreTablesIn cap (slot_at pages) (slot_tables (tables_of lists))
    rows_are = tables_in_another_order cap (slot_at pages) (slot_tables given) (slot_tables (tables_of lists)) read.rows (λ c inside.
        subst (λ t. IsPermutation t (slot_table (slot_tables given) c)) (sym (slot_table_at (tables_of lists) c))
        (subst (IsPermutation (map slot_row (table_at (tables_of lists) c))) (sym (slot_table_at given c))
        (IsPermutation-map slot_row (table_at (tables_of lists) c) (table_at given c)
        (IsPermutation-sym (table_at given c) (table_at (tables_of lists) c) (moved c inside)))))

    -- the slots hold the members that they are in the order of the keys
    pub holds_members : HoldsMembers space cap pages (sorted_by key_before (placed_members cap pages))
    holds_members =
        let all : HoldsTables space cap pages (tables_of lists) free = record { readable = read.readable; rows = rows_are; unused = read.unused } in
        let holds = slots_are_read space cap pages (slot_tables (tables_of lists)) free all
        (length-map (tables_of lists) (λ (table : List SlottedRow). map slot_row table) ∙ four_tables) distinct in
        record { readable = holds.readable; distinct = holds.distinct; members_are = refl }

-- ---- two rows of a collection with one id

mapped : (table : List SlottedRow) (row : SlottedRow) → Contains table row → Contains (map slot_row table) (slot_row row)
mapped table row has = (
  has.0,
  let many = length-map table slot_row in let within = has.1 in omega (arith, many, within),
  get_or-map slot_row table has.0 row (slot_row row) has.1 ∙ ap slot_row has.2,
)

module _ (admitted : Object → Type 0) (dist : Distance) (pivots : List Object) (space : Space) (cap : ℕ) (pages : ℕ → List ℕ) (given : List (List SlottedRow))
    (free : List ℕ) (has : HasTables admitted dist pivots cap given free) (read : HoldsTables space cap pages given free) where
  again : (c slot : ℕ) → c < 4 → RepeatsId (table_at given c) slot → (slot < cap) × HoldsAgain (slot_at pages) slot
  again c slot inside repeats =
      let table = table_at given c in
      let is = has.each c [] (let four = has.four in omega (arith, four, inside)) in
      let greater = repeats.greater in
      let lower = repeats.lower in
      let inside_cap = All-contains (λ (row : SlottedRow). row.slot < cap) table greater is.below repeats.has_greater in
      let its : AreTablesIn cap (slot_at pages) (slot_tables given) = read.rows in
      subst (λ n. (n < cap) × HoldsAgain (slot_at pages) n) repeats.is (
        inside_cap,
        repeated_ids_are_held_again cap (slot_at pages) c (map slot_row table) lower.slot greater.slot greater.row.id lower.row.object greater.row.object
            (subst (λ t. IsPermutation t (tables.slot_rows c (placed_in cap (slot_at pages)))) (slot_table_at given c) (its c inside))
            (subst (λ n. Contains (map slot_row table) (lower.slot, (n, lower.row.object))) repeats.same (mapped table lower repeats.has_lower))
            (mapped table greater repeats.has_greater) repeats.below,
      )

  pub lists_refused : (e : OpenError) → RefusesPage (HasRepeatIn given) e → RefusesSlots space cap (slot_at pages) e
  lists_refused refusal.NotStore bad = bad
  lists_refused (refusal.Damaged page rule.Slot) bad =
      let slot = bad.repeat.slot in
      let is = again bad.collection slot bad.inside bad.repeat.repeats in
      record { slot = slot; below = is.0; page_is = bad.repeat.page_is; bad = inr is.1 }
  lists_refused (refusal.Damaged page rule.Size) bad = bad
  lists_refused (refusal.Damaged page rule.Journal) bad = bad
  lists_refused (refusal.Damaged page rule.Profile) bad = bad
  lists_refused (refusal.Damaged page rule.Pivot) bad = bad
  lists_refused (refusal.Damaged page rule.Page) bad = bad
  lists_refused (refusal.Damaged page rule.Node) bad = bad
  lists_refused (refusal.Damaged page rule.Fill) bad = bad
  lists_refused (refusal.Damaged page rule.Order) bad = bad
  lists_refused (refusal.Damaged page rule.Key) bad = bad
  lists_refused (refusal.Damaged page rule.Box) bad = bad
  lists_refused (refusal.Damaged page rule.Match) bad = bad
  lists_refused refusal.DiskFault bad = absurd bad
  lists_refused refusal.Memory bad = tt
