use Rattle.std.proofs.Common.{◌≤◌}
use Rattle.bptree_node.specs.declared.layout.TheConstants.{HEIGHT_LIMIT}
use Rattle.tree_bench.proofs.filling.fill.Given as goal

abbrev pub invariant-loop-entry : goal.invariant-loop-entry
invariant-loop-entry l = l.root.height ≤ HEIGHT_LIMIT
