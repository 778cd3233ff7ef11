use Rattle.std.specs.Prelude.{◌-◌, take}
use Rattle.bptree_node.specs.Nodes.{branches_of}
use Rattle.near_search.specs.Items.{items_of}
use Rattle.near_search.specs.Least.{least_of}
use Rattle.shelf_tree.specs.Contents.{content_of, branch_item}
use Rattle.shelf_tree.specs.Putting.{ArePutIn, HasLiveChild}
use Rattle.shelf_tree.proofs.tree.CurveTree.put_children.Given as goal

abbrev pub invariant-loop-i : goal.invariant-loop-i
invariant-loop-i g l =
    let s = content_of g.P.Pages g.C.Curve l.self in
    ArePutIn l.best.most (least_of l.best) (branch_item s (l.level - 1)) (HasLiveChild s) (take l.i (branches_of l.node)) (items_of l.fn.queue) (items_of l.queue)
