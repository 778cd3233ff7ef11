use Rattle.std.proofs.Common.{sym, ◌∙◌}
use Rattle.bptree_insert.proofs.Leading.{leads}
use Rattle.bptree_insert.proofs.way.way_for.Goals as goal

pub returns : goal.returns
returns c = record {
  way = leads c.args.page.now c.in-Ok.node c.args.key c.args.id (record { at = c.child_in-at.result; branch = c.branch-node.result }) c.in-Ok.ensures (sym c.is_leaf.ensures ∙ c.if-is_leaf.false)
      c.child_in-at.ensures.place c.branch-node.ensures c.child_in-at.ensures.before c.child_in-at.ensures.after;
}
