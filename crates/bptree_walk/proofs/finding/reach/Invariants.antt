use Rattle.std.proofs.Common.{◌≡◌, ◌+◌, drop}
use Rattle.std.specs.List.{prefix_len}
use Rattle.bptree_node.specs.Nodes.{branches_of}
use Rattle.bptree_walk.specs.Routes.{reaches}
use Rattle.bptree_walk.proofs.finding.reach.Given as goal

abbrev pub invariant-loop-i : goal.invariant-loop-i
invariant-loop-i l = prefix_len (reaches l.key l.id) (branches_of l.node) ≡ l.i + prefix_len (reaches l.key l.id) (drop l.i (branches_of l.node))
