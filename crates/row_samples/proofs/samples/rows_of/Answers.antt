use Rattle.std.proofs.Common.{rules, [], ap, ◌∙◌, arith}
use Rattle.pivot_map.specs.Rows.{entries_of}
use Rattle.row_samples.proofs.Entries.{entries-more}
use Rattle.row_samples.proofs.samples.rows_of.Goals as goal

pub loop-id-preserved : goal.loop-id-preserved
loop-id-preserved g c = record {
  rows = search rules;
  entries = ap entries_of c.in_ok-push.ensures.items
      ∙ entries-more c.loop-id.rows.items _ c.args.entries.now c.loop-id.id-index (0, []) (omega arith) (search rules) c.loop-id.invariant.entries;
}
