use Rattle.std.proofs.Common.{◌≤◌, arith}
use Rattle.std.proofs.lemmas.List.Elements.{All-more}
use Rattle.std.proofs.lemmas.List.Sums.{sum_by_more}
use Rattle.weighted_hamming.proofs.Sums.{weights_at_end}
use Rattle.weighted_hamming.proofs.metric.sum_of.Goals as goal

pub loop-weight-preserved : goal.loop-weight-preserved
loop-weight-preserved c = record {
  positive = All-more (λ weight. 1 ≤ weight) c.args.weights.now c.loop-weight.weight-index 0 (omega arith) c.loop-weight.invariant.positive (omega arith);
  total = omega (arith, c.loop-weight.invariant.total, sum_by_more (λ x. x) c.args.weights.now c.loop-weight.weight-index 0 (omega arith));
  few = omega (arith, c.in_ok-total.ensures.0);
}

pub returns-clause-some : goal.returns-clause-some
returns-clause-some c =
    weights_at_end c.args.weights.now c.loop-weight.weight-index c.loop-weight.total (omega arith) c.loop-weight.invariant.positive
    c.loop-weight.invariant.total c.loop-weight.invariant.few
