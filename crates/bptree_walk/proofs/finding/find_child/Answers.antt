use Rattle.std.proofs.Common.{arith}
use Rattle.bptree_walk.proofs.Ways.{reached_last}
use Rattle.bptree_walk.proofs.finding.find_child.Goals as goal

pub returns-clause-child : goal.returns-clause-child
returns-clause-child g c =
    reached_last c.args.key c.args.id c.args.next c.fetch.new.page c.in_ok-node.node c.branch-branch.result c.reach-reach.result c.in_ok-node.ensures.0 c.reach-reach.ensures.reach
    (omega arith) c.branch-branch.ensures
