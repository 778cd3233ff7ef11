use Rattle.pivot_map.specs.BoundLaws.{bounds_hold}
use Rattle.pivot_map.proofs.bounds.bounds_of_metric.Goals as goal

pub returns : goal.returns
returns g c = bounds_hold _ _ (g.met.M.Metric.metric_laws c.args.metric.now).distance c.args.pivots.now c.requires.pivots
