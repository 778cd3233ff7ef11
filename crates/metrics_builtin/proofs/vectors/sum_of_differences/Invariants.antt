use Rattle.std.proofs.Common.{◌≡◌, ◌+◌, drop}
use Rattle.metrics_builtin.specs.Vectors.{components, l1_dist}
use Rattle.metrics_builtin.proofs.vectors.sum_of_differences.Given as goal

abbrev pub invariant-loop-i : goal.invariant-loop-i
invariant-loop-i l =
    l.total + l1_dist (drop l.i (components l.a)) (drop l.i (components l.b)) ≡ l1_dist (components l.a) (components l.b)
