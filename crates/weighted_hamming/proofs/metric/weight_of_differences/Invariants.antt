use Rattle.std.proofs.Common.{◌≡◌, ◌+◌, drop}
use Rattle.weighted_hamming.specs.Weighted.{weighted_dist}
use Rattle.weighted_hamming.proofs.metric.weight_of_differences.Given as goal

-- the weights so far and the sum of what is left
abbrev pub invariant-loop-i : goal.invariant-loop-i
invariant-loop-i l = l.total + weighted_dist (drop l.i l.weights) (drop l.i l.a) (drop l.i l.b) ≡ weighted_dist l.weights l.a l.b
