use Rattle.metrics_builtin.specs.VectorLaws.{length-IsVector}
use Rattle.metrics_builtin.proofs.vectors.LInfMetric.distance.Goals as goal

pub greatest_difference-requires-clause-first : goal.greatest_difference-requires-clause-first
greatest_difference-requires-clause-first c = length-IsVector _ _ _ c.requires.first

pub greatest_difference-requires-clause-second : goal.greatest_difference-requires-clause-second
greatest_difference-requires-clause-second c = length-IsVector _ _ _ c.requires.second
