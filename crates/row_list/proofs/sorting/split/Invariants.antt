use Rattle.std.proofs.Common.{◌≡◌}
use Rattle.row_list.specs.Slotted.{rows_of, slots_of}
use Rattle.row_list.proofs.sorting.split.Given as goal

-- the rows and the slots so far
abbrev pub invariant-loop-slot : goal.invariant-loop-slot
invariant-loop-slot l = (l.rows.items ≡ rows_of l.yielded) × (l.slots.items ≡ slots_of l.yielded)
