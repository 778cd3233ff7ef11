use Rattle.pivot_map.specs.BoundLaws.{bounds_hold}
use Rattle.pivot_map.specs.VerdictLaws.{query_settles, pair_settles}
use Rattle.pivot_map.proofs.bounds.verdicts_hold.Goals as goal

pub returns-clause-query : goal.returns-clause-query
returns-clause-query g c =
    let kind = g.R.Ruler.kind c.args.ruler.now in
    query_settles _ _ c.args.pivots.now (bounds_hold _ _ (g.met.R.Ruler.ruler_laws kind) c.args.pivots.now c.requires.pivots)

pub returns-clause-pair : goal.returns-clause-pair
returns-clause-pair g c =
    let kind = g.R.Ruler.kind c.args.ruler.now in
    pair_settles _ _ c.args.pivots.now (bounds_hold _ _ (g.met.R.Ruler.ruler_laws kind) c.args.pivots.now c.requires.pivots)
