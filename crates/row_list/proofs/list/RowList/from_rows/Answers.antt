use Rattle.std.proofs.Common.{subst}
use Rattle.row_list.specs.Slotted.{HasRepeatAt, HasAscendingIds}
use Rattle.row_list.proofs.SortedRows.{repeat_of_lower, columns_are, columns_listed}
use Rattle.row_list.proofs.list.RowList.from_rows.Goals as goal

pub returns-in-Some-clause-lists : goal.returns-in-Some-clause-lists
returns-in-Some-clause-lists c =
    repeat_of_lower c.args.rows.items c.sort_by_id.new.rows.items c.in-Some.slot c.requires c.sort_by_id.ensures.same c.sort_by_id.ensures.stable
    (subst (λ rows. HasRepeatAt rows c.in-Some.slot) c.deref.ensures.value c.in-Some.ensures)

pub invariant_of-result : goal.invariant_of-result
invariant_of-result c =
    columns_listed c.sort_by_id.new.rows.items _ _ (subst HasAscendingIds c.deref.ensures.value c.in_default.ensures)
    c.in_ok-columns.ensures.0 c.in_ok-columns.ensures.1

pub returns-clause-lists : goal.returns-clause-lists
returns-clause-lists c =
    columns_are c.args.rows.items c.sort_by_id.new.rows.items _ _ c.sort_by_id.ensures.same c.in_ok-columns.ensures.0 c.in_ok-columns.ensures.1

pub returns-clause-sound : goal.returns-clause-sound
returns-clause-sound c = invariant_of-result c
