use Rattle.std.proofs.Common.{◌≡◌, ◌+◌, length, take}
use Rattle.metric_laws.specs.Log.{LogExtends, each_with}
use Rattle.spb_defs.specs.Pivots.{vector_of}
use Rattle.pivot_map.proofs.vectors.map_object.Given as goal

-- the distances so far are those to the pivots so far, and so were they counted and logged
abbrev pub invariant-loop-pivot : goal.invariant-loop-pivot
invariant-loop-pivot g l =
    let kind = g.R.Ruler.kind l.fn.ruler in
    let seen = take l.pivot-index l.fn.pivots in
    (l.known ≡ l.pivot-index)
    × (length l.at ≡ 8)
    × (take l.known l.at ≡ vector_of (g.R.Ruler.dist kind) seen l.fn.object)
    × (g.R.Ruler.kind l.ruler ≡ kind)
    × (g.R.Ruler.count l.ruler ≡ g.R.Ruler.count l.fn.ruler + l.pivot-index)
    × LogExtends (g.R.Ruler.log l.fn.ruler) (g.R.Ruler.log l.ruler) (each_with l.fn.object seen)
