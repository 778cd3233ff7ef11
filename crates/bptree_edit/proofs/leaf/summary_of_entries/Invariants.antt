use Rattle.std.proofs.Common.{◌≡◌, ◌+◌, take}
use Rattle.std.specs.Prelude.{Some}
use Rattle.bptree_node.specs.Summaries.{summary_of}
use Rattle.bptree_edit.proofs.leaf.summary_of_entries.Given as goal

abbrev pub invariant-loop-entry : goal.invariant-loop-entry
invariant-loop-entry g l = record {
  is : summary_of g.S.Summary.joined (g.F.Boxes.entry_box l.boxes) (take (l.entry-index + 1) l.entries) ≡ Some l.summary;
  made : g.F.Boxes.is_made l.boxes l.summary;
}
