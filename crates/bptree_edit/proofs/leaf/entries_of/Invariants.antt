use Rattle.std.proofs.Common.{◌≡◌, take}
use Rattle.bptree_node.specs.Nodes as words
use Rattle.bptree_edit.proofs.leaf.entries_of.Given as goal

abbrev pub invariant-loop-i : goal.invariant-loop-i
invariant-loop-i l = l.entries.items ≡ take l.i (words.entries_of l.node)
