use Rattle.bptree_edit.proofs.Summing.{join_of_laws, summary-more, summary-ends}
use Rattle.bptree_edit.proofs.leaf.summary_of_entries.Goals as goal

pub returns-in_err-of_entry-clause-is : goal.returns-in_err-of_entry-clause-is
returns-in_err-of_entry-clause-is g c =
    let B = c.args.boxes.now in
    summary-ends g.S.Summary.joined (g.F.Boxes.entry_box B) c.args.entries.now c.loop-entry.entry-index _ c.of_entry-in-loop-entry.result c.from_residual-in_err-of_entry.result
    c.loop-entry-test.true c.of_entry-in-loop-entry.ensures c.in_err-of_entry.was c.from_residual-in_err-of_entry.ensures

pub loop-entry-preserved : goal.loop-entry-preserved
loop-entry-preserved g c =
    let F = g.F.Boxes in
    let B = c.args.boxes.now in
    let laws = g.met.F.Boxes.box_laws B in
    let join = join_of_laws g.S.Summary.size g.S.Summary.joined (F.entry_box B) (F.branch_box B) (F.keys_of B) (F.is_made B) (F.width B) g.met.S.Summary.join_laws laws in
    let more = summary-more g.S.Summary.joined (g.F.Boxes.entry_box B) (F.is_made B) laws.entry_made join c.args.entries.now c.loop-entry.entry-index _ c.of_entry-in-loop-entry.result c.loop-entry.summary
    c.in_ok-of_entry.field-0 c.join-summary.result c.loop-entry-test.true c.loop-entry.invariant.is c.loop-entry.invariant.made c.of_entry-in-loop-entry.ensures c.in_ok-of_entry.was
    c.join-summary.ensures in
    record { is = more.0; made = more.1 }
