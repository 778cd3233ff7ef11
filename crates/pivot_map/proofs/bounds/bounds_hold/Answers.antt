use Rattle.pivot_map.specs.BoundLaws.{bounds_hold}
use Rattle.pivot_map.proofs.bounds.bounds_hold.Goals as goal

pub returns : goal.returns
returns g c = bounds_hold _ _ (g.met.R.Ruler.ruler_laws (g.R.Ruler.kind c.args.ruler.now)) c.args.pivots.now c.requires.pivots
