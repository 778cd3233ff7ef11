use Rattle.std.proofs.Common.{arith}
use Rattle.bptree_node.proofs.Views.{branch_shown}
use Rattle.bptree_node.proofs.node.NodeView.branch.Goals as goal

pub overflow_mul-i : goal.overflow_mul-i
overflow_mul-i c = omega (arith, (branch_shown c.self.inside c.args.self.now c.args.i c.self.view_is c.self.invariant c.requires.inner c.requires.place).0)

pub overflow_add-i : goal.overflow_add-i
overflow_add-i c = omega (arith, (branch_shown c.self.inside c.args.self.now c.args.i c.self.view_is c.self.invariant c.requires.inner c.requires.place).0)

pub branch_from-requires : goal.branch_from-requires
branch_from-requires c = omega (arith, (branch_shown c.self.inside c.args.self.now c.args.i c.self.view_is c.self.invariant c.requires.inner c.requires.place).0)

pub returns : goal.returns
returns c =
    (branch_shown c.self.inside c.args.self.now c.args.i c.self.view_is c.self.invariant c.requires.inner c.requires.place).1
    c.branch_from.result c.branch_from.ensures
