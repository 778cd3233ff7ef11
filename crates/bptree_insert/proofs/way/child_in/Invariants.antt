use Rattle.std.proofs.Common.{◌≡◌, ◌-◌, ◌<◌, false, get_or}
use Rattle.bptree_node.specs.declared.rows.Branch.{Branch}
use Rattle.bptree_node.specs.Nodes.{branches_of}
use Rattle.bptree_edit.specs.Parts.{before_branch}
use Rattle.bptree_insert.proofs.way.child_in.Given as goal

abbrev pub invariant-loop-i : goal.invariant-loop-i
invariant-loop-i l = (d : Branch) → 1 < l.i → before_branch l.key l.id (get_or (branches_of l.node) (l.i - 1) d) ≡ false
