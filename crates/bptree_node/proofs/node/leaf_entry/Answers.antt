use Rattle.std.proofs.Common.{arith}
use Rattle.bptree_node.proofs.Views.{leaf_shown}
use Rattle.bptree_node.proofs.node.leaf_entry.Goals as goal

pub overflow_mul-i : goal.overflow_mul-i
overflow_mul-i c = omega (arith, (leaf_shown c.args.page.now c.args.i c.requires).0)

pub overflow_add-i : goal.overflow_add-i
overflow_add-i c = omega (arith, (leaf_shown c.args.page.now c.args.i c.requires).0)

pub entry_from-requires : goal.entry_from-requires
entry_from-requires c = omega (arith, (leaf_shown c.args.page.now c.args.i c.requires).0)

pub returns : goal.returns
returns c = (leaf_shown c.args.page.now c.args.i c.requires).1 c.entry_from.result c.entry_from.ensures
