use Rattle.std.proofs.Common.{◌≡◌, ◌/◌, slice_index}
use Rattle.hilbert_curve.specs.Curve.{lanes}
use Rattle.hilbert_curve.proofs.lanes.packed.Given as goal

abbrev pub invariant-loop-j : goal.invariant-loop-j
invariant-loop-j g l = l.all ≡ lanes (64 / g.row.N) l.j (λ j. slice_index l.coordinates j)
