use Rattle.std.proofs.Common.{get_or, arith}
use Rattle.weighted_hamming.specs.WeightedLaws.{added-same, added-apart, weighted_dist-drop, weighted_dist-end, weighted_dist-le}
use Rattle.weighted_hamming.proofs.metric.weight_of_differences.Goals as goal
use Rattle.weighted_hamming.proofs.metric.weight_of_differences.Goals.{then-a-i, else-a-i}

pub overflow_add-total : goal.overflow_add-total
overflow_add-total c =
    let few = c.requires.weights.few in
    omega (
      arith,
      few,
      weighted_dist-drop c.args.weights.now c.args.a.now c.args.b.now c.loop-i.i (omega arith) (omega arith) (omega arith),
      added-apart (get_or c.args.weights.now c.loop-i.i 0) (get_or c.args.a.now c.loop-i.i 0) (get_or c.args.b.now c.loop-i.i 0) c.if-a-i.true,
      weighted_dist-le c.args.weights.now c.args.a.now c.args.b.now c.requires.first c.requires.second,
    )

pub loop-i-preserved : goal.loop-i-preserved
loop-i-preserved c = elim c.if-a-i.branch [
  | then-a-i w ↦ omega (
    arith,
    weighted_dist-drop c.args.weights.now c.args.a.now c.args.b.now c.loop-i.i (omega arith) (omega arith) (omega arith),
    added-apart (get_or c.args.weights.now c.loop-i.i 0) (get_or c.args.a.now c.loop-i.i 0) (get_or c.args.b.now c.loop-i.i 0) w.if-a-i.true,
  )
  | else-a-i w ↦ omega (
    arith,
    weighted_dist-drop c.args.weights.now c.args.a.now c.args.b.now c.loop-i.i (omega arith) (omega arith) (omega arith),
    added-same (get_or c.args.weights.now c.loop-i.i 0) (get_or c.args.a.now c.loop-i.i 0) (get_or c.args.b.now c.loop-i.i 0) w.if-a-i.false,
  )
]

pub returns : goal.returns
returns c = omega (arith, weighted_dist-end c.args.weights.now c.args.a.now c.args.b.now c.loop-i.i (omega arith))
