use Rattle.std.proofs.Common.{◌≡◌, take}
use Rattle.pivot_map.specs.Rows.{ArePivots}
use Rattle.row_samples.proofs.samples.pivots_of.Given as goal

-- the objects so far are the pivots
abbrev pub invariant-loop-object : goal.invariant-loop-object
invariant-loop-object g l = record {
  pivots : ArePivots (g.M.Metric.admitted l.fn.metric) l.pivots.items;
  objects : l.pivots.items ≡ take l.object-index l.objects;
}
