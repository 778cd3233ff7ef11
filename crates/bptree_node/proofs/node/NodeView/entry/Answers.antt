use Rattle.std.proofs.Common.{arith}
use Rattle.bptree_node.proofs.Views.{entry_shown}
use Rattle.bptree_node.proofs.node.NodeView.entry.Goals as goal

pub overflow_mul-i : goal.overflow_mul-i
overflow_mul-i c = omega (arith, (entry_shown c.self.inside c.args.self.now c.args.i c.self.view_is c.self.invariant c.requires.leaf c.requires.place).0)

pub overflow_add-i : goal.overflow_add-i
overflow_add-i c = omega (arith, (entry_shown c.self.inside c.args.self.now c.args.i c.self.view_is c.self.invariant c.requires.leaf c.requires.place).0)

pub entry_from-requires : goal.entry_from-requires
entry_from-requires c = omega (arith, (entry_shown c.self.inside c.args.self.now c.args.i c.self.view_is c.self.invariant c.requires.leaf c.requires.place).0)

pub returns : goal.returns
returns c =
    (entry_shown c.self.inside c.args.self.now c.args.i c.self.view_is c.self.invariant c.requires.leaf c.requires.place).1
    c.entry_from.result c.entry_from.ensures
