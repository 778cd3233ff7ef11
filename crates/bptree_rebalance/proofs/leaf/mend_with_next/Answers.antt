use Rattle.std.proofs.Common.{rules, ◌≡◌, ℕ, ◌+◌, ◌++◌, Bool, List, sym, ap, subst, ◌∙◌}
use Rattle.std.specs.Prelude.{IsTrue, IsSome, Some}
use Rattle.std.specs.List.{AllByRecursion}
use Rattle.page_laws.specs.Pages.{is_live}
use Rattle.bptree_node.specs.declared.rows.Entry.{Entry}
use Rattle.bptree_node.specs.Nodes.{Leaf, node_in}
use Rattle.bptree_node.specs.Summaries.{HasCorners}
use Rattle.bptree_rebalance.specs.Settling.{child_at}
use Rattle.bptree_rebalance.proofs.Children.{child-is, mended-over}
use Rattle.bptree_rebalance.proofs.LeafSettling.{if-settled, next-leaf, next-boxes, next-lives, next-settles}
use Rattle.bptree_rebalance.proofs.leaf.mend_with_next.Goals as goal

pub returns-in_err-next-clause-sound : goal.returns-in_err-next-clause-sound
returns-in_err-next-clause-sound g c = λ known.
    let P = g.P.Pages in
    let F = g.F.Boxes in
    let B = c.args.boxes.now in
    let bs = c.args.branches.now.items in
    let lost = c.requires.tree known in
    let old = P.page_at c.args.pages.now in
    let child = child-is c.deref.result.now bs (c.args.at + 1) _ c.deref.ensures.0 (c.requires.place) in
    let is = next-leaf g.S.Summary.joined (F.entry_box B) (F.keys_of B) (P.in_pool c.args.pages.now) old (P.free c.args.pages.now) bs c.args.at c.args.entries.items lost c.requires.place in
    let live = next-lives g.S.Summary.joined (F.entry_box B) (F.keys_of B) (P.in_pool c.args.pages.now) old (P.free c.args.pages.now) bs c.args.at c.args.entries.items lost c.requires.place is.0 is.1 in
    let fact = c.in_err-next.ensures.sound known
    (subst (λ (k : ℕ). IsTrue (is_live (P.in_pool c.args.pages.now) (P.free c.args.pages.now) k)) (sym child) live.1)
    is.0 (ap (λ (k : ℕ). node_in (old k)) child ∙ is.1) in
    search (rules, fact)

pub returns-clause-settles : goal.returns-clause-settles
returns-clause-settles g c = λ known.
    let P = g.P.Pages in
    let F = g.F.Boxes in
    let B = c.args.boxes.now in
    let joined = g.S.Summary.joined in
    let bs = c.args.branches.now.items in
    let lost = c.requires.tree known in
    let old = P.page_at c.args.pages.now in
    let child = child-is c.deref.result.now bs (c.args.at + 1) _ c.deref.ensures.0 (c.requires.place) in
    let ns = c.in_ok-next.next.items in
    let stays = c.in_ok-next.ensures.stays in
    let node : node_in (old (child_at bs (c.args.at + 1))) ≡ Some (Leaf ns) = ap (λ (k : ℕ). node_in (old k)) (sym child) ∙ c.in_ok-next.ensures.leaf known in
    let rows = (c.deref-3.ensures.0 ∙ c.joined-rows.ensures ∙ ap (λ (es : List Entry). c.args.entries.items ++ es) c.deref-2.ensures.0) in
    if-settled (HasCorners joined (F.entry_box B) (F.keys_of B)) old (P.page_at c.mend_pair.new.pages) (P.free c.args.pages.now) (P.free c.mend_pair.new.pages) 0 _ _ _ _ c.mend_pair.new.branches.items
    _ c.mend_pair.result c.mend_pair.ensures.mends (λ has.
    next-settles joined (F.entry_box B) (F.keys_of B) (P.in_pool c.args.pages.now) old (P.free c.args.pages.now) bs c.args.at c.args.entries.items lost c.requires.place ns node
    (P.page_at c.mend_pair.new.pages) (P.free c.mend_pair.new.pages) c.mend_pair.new.branches.items
    (mended-over joined (F.entry_box B) (F.keys_of B) bs c.mend_pair.new.branches.items _ _ _ (P.page_at c.read_leaf.new.pages) old (P.page_at c.mend_pair.new.pages)
    (P.free c.read_leaf.new.pages) (P.free c.args.pages.now) (P.free c.mend_pair.new.pages) rows (stays.contents known) stays.continues.free_pages has))

pub returns-clause-sound : goal.returns-clause-sound
returns-clause-sound g c = λ known.
    let P = g.P.Pages in
    let F = g.F.Boxes in
    let B = c.args.boxes.now in
    let bs = c.args.branches.now.items in
    let lost = c.requires.tree known in
    let old = P.page_at c.args.pages.now in
    let child = child-is c.deref.result.now bs (c.args.at + 1) _ c.deref.ensures.0 (c.requires.place) in
    let ns = c.in_ok-next.next.items in
    let stays = c.in_ok-next.ensures.stays in
    let node : node_in (old (child_at bs (c.args.at + 1))) ≡ Some (Leaf ns) = ap (λ (k : ℕ). node_in (old k)) (sym child) ∙ c.in_ok-next.ensures.leaf known in
    let rows = (c.deref-3.ensures.0 ∙ c.joined-rows.ensures ∙ ap (λ (es : List Entry). c.args.entries.items ++ es) c.deref-2.ensures.0) in
    let live = next-lives g.S.Summary.joined (F.entry_box B) (F.keys_of B) (P.in_pool c.args.pages.now) old (P.free c.args.pages.now) bs c.args.at c.args.entries.items lost c.requires.place ns node in
    let boxes = next-boxes g.S.Summary.joined (F.entry_box B) (F.keys_of B) (P.in_pool c.args.pages.now) old (P.free c.args.pages.now) bs c.args.at c.args.entries.items lost c.requires.place ns node in
    let now : (n : ℕ) → IsTrue (is_live (P.in_pool c.args.pages.now) (P.free c.args.pages.now) n) → IsTrue (is_live (P.in_pool c.read_leaf.new.pages) (P.free c.read_leaf.new.pages) n) =
    λ n is. subst (λ (pool : ℕ → Bool). IsTrue (is_live pool (P.free c.read_leaf.new.pages) n)) (sym stays.continues.pool)
    (subst (λ (free : List ℕ). IsTrue (is_live (P.in_pool c.args.pages.now) free n)) (sym stays.continues.free_pages) is) in
    c.mend_pair.ensures.sound (now _ live.0) (now _ live.1) (subst (AllByRecursion (λ (e : Entry). IsSome (F.entry_box B e))) (sym rows) boxes)
