use Rattle.bptree_node.proofs.Views.{count_shown}
use Rattle.bptree_node.proofs.node.NodeView.count.Goals as goal

pub returns : goal.returns
returns c = let known = count_shown c.self.inside c.args.self.now c.self.view_is c.self.invariant in record { count = known.0; range = known.1 }
