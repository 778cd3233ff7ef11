use Rattle.std.proofs.Common.{◌≡◌, ◌<◌, ◌≤◌, ◌^◌, take}
use Rattle.std.specs.Prelude.{All, sum}
use Rattle.weighted_hamming.proofs.metric.sum_of.Given as goal

-- the weights so far are positive, and the total is their sum
abbrev pub invariant-loop-weight : goal.invariant-loop-weight
invariant-loop-weight l = record {
  positive : All (λ weight. 1 ≤ weight) (take l.weight-index l.weights);
  total : l.total ≡ sum (take l.weight-index l.weights);
  few : l.total < 2 ^ 32;
}
