use Rattle.std.proofs.Common.{◌≡◌, take}
use Rattle.pivot_map.specs.Rows.{AreRows, entries_of}
use Rattle.row_samples.proofs.samples.rows_of.Given as goal

-- the entries so far have rows
abbrev pub invariant-loop-id : goal.invariant-loop-id
invariant-loop-id g l = record {
  rows : AreRows (g.M.Metric.admitted l.fn.metric) (g.M.Metric.dist l.fn.metric) l.pivots l.rows.items;
  entries : entries_of l.rows.items ≡ take l.id-index l.entries;
}
