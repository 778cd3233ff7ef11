use Rattle.bptree_node.specs.declared.rows.Branch.{Branch}
use Rattle.bptree_edit.proofs.Summing.{join_of_laws, summary-more, summary-ends}
use Rattle.bptree_edit.proofs.inner.summary_of_branches.Goals as goal

pub returns-in_err-of_branch-clause-is : goal.returns-in_err-of_branch-clause-is
returns-in_err-of_branch-clause-is g c =
    let B = c.args.boxes.now in
    summary-ends g.S.Summary.joined (λ (b : Branch). g.F.Boxes.branch_box B b.low b.high) c.args.branches.now c.loop-branch.branch-index _ c.of_branch-in-loop-branch.result c.from_residual-in_err-of_branch.result
    c.loop-branch-test.true c.of_branch-in-loop-branch.ensures c.in_err-of_branch.was c.from_residual-in_err-of_branch.ensures

pub loop-branch-preserved : goal.loop-branch-preserved
loop-branch-preserved g c =
    let F = g.F.Boxes in
    let B = c.args.boxes.now in
    let laws = g.met.F.Boxes.box_laws B in
    let join = join_of_laws g.S.Summary.size g.S.Summary.joined (F.entry_box B) (F.branch_box B) (F.keys_of B) (F.is_made B) (F.width B) g.met.S.Summary.join_laws laws in
    let more = summary-more g.S.Summary.joined (λ (b : Branch). g.F.Boxes.branch_box B b.low b.high) (F.is_made B) (λ (b : Branch). laws.branch_made b.low b.high) join c.args.branches.now c.loop-branch.branch-index _ c.of_branch-in-loop-branch.result c.loop-branch.summary
    c.in_ok-of_branch.field-0 c.join-summary.result c.loop-branch-test.true c.loop-branch.invariant.is c.loop-branch.invariant.made c.of_branch-in-loop-branch.ensures c.in_ok-of_branch.was
    c.join-summary.ensures in
    record { is = more.0; made = more.1 }
