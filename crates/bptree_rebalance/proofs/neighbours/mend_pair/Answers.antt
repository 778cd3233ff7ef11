use Rattle.std.proofs.Common.{◌+◌, arith}
use Rattle.bptree_rebalance.proofs.Children.{child-is, mended-at}
use Rattle.bptree_rebalance.proofs.neighbours.mend_pair.Goals as goal

pub returns-clause-mends : goal.returns-clause-mends
returns-clause-mends g c =
    let P = g.P.Pages in
    let F = g.F.Boxes in
    let B = c.args.boxes.now in
    let bs = c.args.branches.now.items in
    mended-at g.S.Summary.joined (F.entry_box B) (F.keys_of B) bs c.replace_pair.new.branches.items c.args.left c.args.rows.now (P.page_at c.args.pages.now) (P.page_at c.mend_leaves.new.pages)
    (P.free c.args.pages.now) (P.free c.mend_leaves.new.pages) c.in_ok-mended.mended _ _
    (child-is c.deref.result.now bs c.args.left _ c.deref.ensures.0 (omega (arith, c.requires.place)))
    (child-is c.deref-2.result.now bs (c.args.left + 1) _ c.deref-2.ensures.0 c.requires.place)
    c.in_ok-mended.ensures.mends c.replace_pair.ensures.rows
