use Rattle.std.specs.Prelude.{take}
use Rattle.bptree_node.specs.Nodes.{entries_of}
use Rattle.near_search.specs.Items.{items_of}
use Rattle.near_search.specs.Least.{least_of}
use Rattle.shelf_tree.specs.Contents.{content_of, entry_item}
use Rattle.shelf_tree.specs.Putting.{ArePutIn, HasFilledSlot}
use Rattle.shelf_tree.proofs.tree.CurveTree.put_objects.Given as goal

abbrev pub invariant-loop-i : goal.invariant-loop-i
invariant-loop-i g l =
    let s = content_of g.P.Pages g.C.Curve l.self in
    ArePutIn l.best.most (least_of l.best) (entry_item s) (HasFilledSlot s) (take l.i (entries_of l.leaf)) (items_of l.fn.queue) (items_of l.queue)
