use Rattle.row_list.proofs.SortedRows.{IsPassed}
use Rattle.row_list.proofs.sorting.repeated_slot.Given as goal

-- the ids so far ascend
abbrev pub invariant-loop-row : goal.invariant-loop-row
invariant-loop-row l = IsPassed l.rows l.row-index l.last
