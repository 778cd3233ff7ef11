use Rattle.std.proofs.Common.{◌<◌, List, length, take, subst, arith}
use Rattle.bptree_node.specs.Nodes.{entries_of}
use Rattle.bptree_node.specs.declared.rows.Entry.{Entry}
use Rattle.near_search.specs.Items.{items_of}
use Rattle.near_search.specs.Least.{least_of}
use Rattle.near_search.specs.declared.queue.Waiting.{Waiting}
use Rattle.shelf_tree.specs.Contents.{content_of, entry_item}
use Rattle.shelf_tree.specs.Putting.{IsOffered, ArePutIn, HasFilledSlot}
use Rattle.shelf_tree.proofs.Putting.{put-none, put-more, take-row, leaf-count}
use Rattle.shelf_tree.proofs.tree.CurveTree.put_objects.Goals as goal

pub loop-i-init : goal.loop-i-init
loop-i-init g c =
    let s = content_of g.P.Pages g.C.Curve c.args.self.now in
    put-none c.args.best.now.most (least_of c.args.best.now) (entry_item s) (HasFilledSlot s) (items_of c.args.queue.now)

pub loop-i-preserved : goal.loop-i-preserved
loop-i-preserved g c =
    let s = content_of g.P.Pages g.C.Curve c.args.self.now in
    let rows = entries_of c.args.leaf.now in
    let i = c.loop-i.i in
    let row = c.entry.result in
    let k = c.args.best.now.most in
    let ranks = least_of c.args.best.now in
    let old = items_of c.args.queue.now in
    let mid = items_of c.loop-i.queue in
    let new = items_of c.offer.new.queue in
    let within : i < length rows = omega (arith, c.loop-i-test.true, c.count-i-end.ensures.count, leaf-count c.args.leaf.now c.requires.leaf) in
    let offered : IsOffered k ranks (entry_item s row) mid new =
    subst (λ (w : Waiting). IsOffered k ranks w mid new) c.in_ok-item.ensures.0 c.in_ok-offer.ensures in
    subst (λ (rs : List Entry). ArePutIn k ranks (entry_item s) (HasFilledSlot s) rs old new) (take-row rows i row within c.entry.ensures)
    (put-more k ranks (entry_item s) (HasFilledSlot s) (take i rows) row old mid new c.loop-i.invariant c.in_ok-item.ensures.1 offered)
