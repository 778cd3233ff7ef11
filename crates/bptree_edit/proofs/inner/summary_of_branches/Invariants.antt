use Rattle.std.proofs.Common.{◌≡◌, ◌+◌, take}
use Rattle.std.specs.Prelude.{Some}
use Rattle.bptree_node.specs.declared.rows.Branch.{Branch}
use Rattle.bptree_node.specs.Summaries.{summary_of}
use Rattle.bptree_edit.proofs.inner.summary_of_branches.Given as goal

abbrev pub invariant-loop-branch : goal.invariant-loop-branch
invariant-loop-branch g l = record {
  is : summary_of g.S.Summary.joined (λ (b : Branch). g.F.Boxes.branch_box l.boxes b.low b.high) (take (l.branch-index + 1) l.branches) ≡ Some l.summary;
  made : g.F.Boxes.is_made l.boxes l.summary;
}
