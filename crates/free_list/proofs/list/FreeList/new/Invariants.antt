use Rattle.std.proofs.Common.{◌≡◌, take}
use Rattle.free_list.proofs.list.FreeList.new.Given as goal

-- the numbers so far are free
abbrev pub invariant-loop-n : goal.invariant-loop-n
invariant-loop-n l = l.list ≡ record { first = l.first; count = l.count; numbers = take l.n-index l.free }
