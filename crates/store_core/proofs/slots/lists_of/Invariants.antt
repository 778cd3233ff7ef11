use Rattle.store_core.proofs.SlotLists.{AreListsBefore}
use Rattle.store_core.proofs.slots.lists_of.Given as goal

-- the lists so far have the rows of their tables, and the other tables are as they were
abbrev pub invariant-loop-c : goal.invariant-loop-c
invariant-loop-c l = AreListsBefore l.c l.fn.tables l.tables l.lists
