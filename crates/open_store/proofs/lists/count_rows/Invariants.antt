use Rattle.std.proofs.Common.{◌≡◌, take}
use Rattle.open_store.specs.Store.{tables_of, row_count}
use Rattle.open_store.proofs.lists.count_rows.Given as goal

-- the rows of the collections so far
abbrev pub invariant-loop-c : goal.invariant-loop-c
invariant-loop-c l = l.count ≡ row_count (take l.c (tables_of l.fn.lists))
