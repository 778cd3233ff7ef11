use Rattle.std.proofs.Common.{◌≡◌, max, drop}
use Rattle.metrics_builtin.specs.Vectors.{components, linf_dist}
use Rattle.metrics_builtin.proofs.vectors.greatest_difference.Given as goal

abbrev pub invariant-loop-i : goal.invariant-loop-i
invariant-loop-i l =
    max l.greatest (linf_dist (drop l.i (components l.a)) (drop l.i (components l.b))) ≡ linf_dist (components l.a) (components l.b)
