use Rattle.std.proofs.Common.{take}
use Rattle.tree_check.proofs.Advancing.{Holds}
use Rattle.tree_check.proofs.node.+check_node.Given as goal

abbrev pub decreases-check_node : goal.decreases-check_node
decreases-check_node g l = l.at.level

abbrev pub invariant-loop-branch : goal.invariant-loop-branch
invariant-loop-branch g l =
    Holds g.P.Pages g.S.Summary.joined (g.F.Boxes.entry_box l.boxes) (g.F.Boxes.keys_of l.boxes) l.fn.pages l.pages l.fn.at (take l.branch-index l.branch-items) l.fn.used l.used
    l.fn.entries.items l.entries.items
