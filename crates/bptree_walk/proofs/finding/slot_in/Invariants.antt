use Rattle.std.proofs.Common.{◌≡◌, drop}
use Rattle.bptree_node.specs.Nodes.{entries_of}
use Rattle.bptree_node.specs.Trees.{slot_of}
use Rattle.bptree_walk.proofs.finding.slot_in.Given as goal

abbrev pub invariant-loop-i : goal.invariant-loop-i
invariant-loop-i l = slot_of l.key l.id (entries_of l.leaf) ≡ slot_of l.key l.id (drop l.i (entries_of l.leaf))
