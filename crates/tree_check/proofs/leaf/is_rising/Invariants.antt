use Rattle.std.proofs.Common.{take}
use Rattle.bptree_node.specs.Trees.{IsRising}
use Rattle.tree_check.proofs.leaf.is_rising.Given as goal

abbrev pub invariant-loop-i : goal.invariant-loop-i
invariant-loop-i l = IsRising (take l.i l.entries)
