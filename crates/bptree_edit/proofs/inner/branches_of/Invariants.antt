use Rattle.std.proofs.Common.{◌≡◌, take}
use Rattle.bptree_node.specs.Nodes as words
use Rattle.bptree_edit.proofs.inner.branches_of.Given as goal

abbrev pub invariant-loop-i : goal.invariant-loop-i
invariant-loop-i l = l.branches.items ≡ take l.i (words.branches_of l.node)
