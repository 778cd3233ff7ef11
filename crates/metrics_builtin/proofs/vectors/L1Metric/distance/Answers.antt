use Rattle.metrics_builtin.specs.VectorLaws.{length-IsVector}
use Rattle.metrics_builtin.specs.SpaceLaws.{dist-below}
use Rattle.metrics_builtin.specs.declared.Space.TheVariants.{L1}
use Rattle.metrics_builtin.proofs.vectors.L1Metric.distance.Goals as goal

pub sum_of_differences-requires-clause-first : goal.sum_of_differences-requires-clause-first
sum_of_differences-requires-clause-first c = length-IsVector _ _ _ c.requires.first

pub sum_of_differences-requires-clause-second : goal.sum_of_differences-requires-clause-second
sum_of_differences-requires-clause-second c = length-IsVector _ _ _ c.requires.second

pub sum_of_differences-requires-clause-in_range : goal.sum_of_differences-requires-clause-in_range
sum_of_differences-requires-clause-in_range c =
    dist-below (L1 c.args.self.now.dim c.args.self.now.most) c.args.a.now c.args.b.now c.args.self.now.in_range c.requires.first c.requires.second
