-- How many objects a store that is opened has.
use Rattle.std.proofs.Common.{◌≡◌, ℕ, ◌+◌, ◌≤◌, Bool, List, length, take, None, refl, ap, arith}
use Rattle.std.proofs.lemmas.List.{take_all}
use Rattle.metric_laws.specs.Objects.{Object, Distance}
use Rattle.spb_defs.specs.State.{State}
use Rattle.redo_journal.specs.Pages.{page}
use Rattle.slot_laws.specs.FreeSlotLaws.{slots_are_counted}
use Rattle.row_list.specs.declared.sorting.SlottedRow.{SlottedRow}
use Rattle.open_store.specs.Store.{StoreView, IsStore, IsInState, table_at, row_count}
use Rattle.open_store.proofs.States.{cap_of}
use Rattle.open_store.proofs.Tables.{row_count-take}

-- the rows of four tables, one after the other
pub four_tables : (ts : List (List SlottedRow)) → length ts ≡ 4
    → row_count ts ≡ length (table_at ts 0) + length (table_at ts 1) + length (table_at ts 2) + length (table_at ts 3)
four_tables ts four =
    let whole : row_count (take 4 ts) ≡ row_count ts = ap row_count (take_all 4 ts (omega (arith, four))) in
    let first = row_count-take ts 0 (omega (arith, four)) in
    let second = row_count-take ts 1 (omega (arith, four)) in
    let third = row_count-take ts 2 (omega (arith, four)) in
    let fourth = row_count-take ts 3 (omega (arith, four)) in
    let none : row_count (take 0 ts) ≡ 0 = refl in
    omega (arith, whole, first, second, third, fourth, none)

module _ {D M : Type 0} (is_known : D → Bool) (image : D → List ℕ) (admitted : M → Object → Type 0) (dist : M → Distance) where
  -- no store has more rows than objects fit into a file
  pub few_rows : (v : StoreView D M) → IsStore is_known image admitted dist v → row_count v.tables ≤ 65536
  few_rows v store = let few = store.few in let most = store.in_range.few in omega (arith, few, most)

  -- a store has as many rows as its state has members
  pub rows_are_members : (v : StoreView D M) (s : State) → IsStore is_known image admitted dist v → v.spent ≡ None → IsInState is_known image v s
      → row_count v.tables ≡ length s.members
  rows_are_members v s store unspent in_state =
      let all = slots_are_counted s.space s.cap (page (image v.pages.disk)) s.members v.slots.free in_state.stored.keeps.members in_state.free_are in
      let cap = cap_of is_known image v s in_state in
      let counted = store.counted unspent in
      omega (arith, all, cap, counted)
