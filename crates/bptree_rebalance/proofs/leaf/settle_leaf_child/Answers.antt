use Rattle.std.proofs.Common.{List, sym, subst, arith}
use Rattle.std.specs.Prelude.{IsSome}
use Rattle.std.specs.List.{AllByRecursion}
use Rattle.bptree_node.specs.declared.rows.Entry.{Entry}
use Rattle.bptree_node.specs.Nodes.{Leaf}
use Rattle.bptree_node.specs.Summaries.{HasCorners}
use Rattle.bptree_edit.specs.Parts.{IsLeafPart}
use Rattle.bptree_rebalance.specs.Settling.{HasStored}
use Rattle.bptree_rebalance.proofs.LeafSettling.{if-settled, own-boxes, stored-settles}
use Rattle.bptree_rebalance.proofs.leaf.settle_leaf_child.Goals as goal

pub returns-then-len-ge-LEAST_ENTRIES-clause-settles : goal.returns-then-len-ge-LEAST_ENTRIES-clause-settles
returns-then-len-ge-LEAST_ENTRIES-clause-settles g c = λ known.
    let P = g.P.Pages in
    let F = g.F.Boxes in
    let B = c.args.boxes.now in
    let joined = g.S.Summary.joined in
    let bs = c.args.branches.now.items in
    let lost = c.requires.tree known in
    let old = P.page_at c.args.pages.now in
    if-settled (HasCorners joined (F.entry_box B) (F.keys_of B)) old (P.page_at c.store_leaf.new.pages) (P.free c.args.pages.now) (P.free c.store_leaf.new.pages) 0 _ _ _ _ c.store_leaf.new.branches.items
    _ c.store_leaf.result c.store_leaf.ensures.stores (λ has.
    stored-settles joined (F.entry_box B) (F.keys_of B) (P.in_pool c.args.pages.now) old (P.free c.args.pages.now) bs c.args.at c.args.entries.items lost
    (P.page_at c.store_leaf.new.pages) (P.free c.store_leaf.new.pages) c.store_leaf.new.branches.items (omega (arith, c.if-len-ge-LEAST_ENTRIES.true, c.len.ensures.value))
    (subst (λ (es : List Entry). HasStored (λ (rows : List Entry). Leaf rows) (IsLeafPart joined (F.entry_box B)) (F.keys_of B) c.args.at bs c.store_leaf.new.branches.items es
    old (P.page_at c.store_leaf.new.pages) (P.free c.args.pages.now) (P.free c.store_leaf.new.pages)) c.deref.ensures.0 has))

pub returns-then-len-ge-LEAST_ENTRIES-clause-sound : goal.returns-then-len-ge-LEAST_ENTRIES-clause-sound
returns-then-len-ge-LEAST_ENTRIES-clause-sound g c = λ known.
    let P = g.P.Pages in
    let F = g.F.Boxes in
    let B = c.args.boxes.now in
    c.store_leaf.ensures.sound
    (subst (AllByRecursion (λ (e : Entry). IsSome (F.entry_box B e))) (sym c.deref.ensures.0)
    (own-boxes g.S.Summary.joined (F.entry_box B) (F.keys_of B) (P.in_pool c.args.pages.now) (P.page_at c.args.pages.now) (P.free c.args.pages.now) c.args.branches.now.items c.args.at c.args.entries.items
    (c.requires.tree known)))
