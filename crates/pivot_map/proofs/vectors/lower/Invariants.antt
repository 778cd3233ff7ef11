use Rattle.std.proofs.Common.{◌≡◌, length, max}
use Rattle.spb_defs.specs.Pivots.{lower_bound}
use Rattle.pivot_map.proofs.vectors.lower.Given as goal

-- the greatest so far, and those of what is left, make the bound
abbrev pub invariant-loop-a : goal.invariant-loop-a
invariant-loop-a l =
    (max l.most (lower_bound l.a-iterator.a.rest.now l.a-iterator.b.rest.now) ≡ lower_bound l.fn.q l.fn.o)
    × (length l.a-iterator.a.rest.now ≡ length l.a-iterator.b.rest.now)
