use Rattle.std.proofs.Common.{◌≡◌, ℕ, ◌-◌, suc, Bool, ap₂, subst, arith}
use Rattle.std.specs.Prelude.{IsTrue, MatchResult}
use Rattle.page_laws.specs.Pages.{is_live}
use Rattle.bptree_node.specs.Nodes.{entries_of, branches_of}
use Rattle.near_search.specs.Items.{items_of}
use Rattle.near_search.specs.Least.{least_of}
use Rattle.near_search.specs.Visits.{CanVisit, Enqueues, Expands}
use Rattle.shelf_tree.specs.Contents.{content_of, nodes_of, entry_item, branch_item, IsSoundNode}
use Rattle.shelf_tree.specs.Breaches.{CanOpen, CanMeasure}
use Rattle.shelf_tree.specs.Putting.{ArePutIn, IsRowCause, BreaksEntry, BreaksBranch, HasFilledSlot, HasLiveChild}
use Rattle.shelf_tree.proofs.Opening.{held_page, on-ok, with_live, leaf-tells, leaf-few, leaf-rows, inner-tells, inner-few, inner-rows}
use Rattle.shelf_tree.proofs.tree.CurveTreeHierarchy.open.Goals as goal

pub returns-then-level-eq0-clause-tells : goal.returns-then-level-eq0-clause-tells
returns-then-level-eq0-clause-tells g c =
    let s = content_of g.P.Pages g.C.Curve c.args.self.now in
    let place = c.args.place in
    let level = c.args.level in
    let k = c.args.best.now.most in
    let ranks = least_of c.args.best.now in
    let old = items_of c.args.queue.now in
    let page = c.get.new.into in
    let node = c.in_ok-node.node in
    let held : IsTrue s.is_known → page ≡ s.page_at place =
    held_page (g.P.Pages.is_known c.args.self.now.pages.now) (g.P.Pages.page_at c.args.self.now.pages.now) page place c.in_ok-get.ensures.data in
    let new = items_of c.put_objects.new.queue in
    let put_in : Type 0 = ArePutIn k ranks (entry_item s) (HasFilledSlot s) (entries_of node) old new in
    let answer : MatchResult c.put_objects.result (λ _. put_in) (IsRowCause (BreaksEntry s place) (entries_of node)) = c.put_objects.ensures in
    leaf-tells s page node c.in_ok-node.ensures.0 level place held c.requires.node c.if-level-eq0.true (λ _. put_in) c.put_objects.result answer

pub returns-then-level-eq0-clause-few : goal.returns-then-level-eq0-clause-few
returns-then-level-eq0-clause-few g c =
    let s = content_of g.P.Pages g.C.Curve c.args.self.now in
    let place = c.args.place in
    let level = c.args.level in
    let k = c.args.best.now.most in
    let ranks = least_of c.args.best.now in
    let old = items_of c.args.queue.now in
    let page = c.get.new.into in
    let node = c.in_ok-node.node in
    let held : IsTrue s.is_known → page ≡ s.page_at place =
    held_page (g.P.Pages.is_known c.args.self.now.pages.now) (g.P.Pages.page_at c.args.self.now.pages.now) page place c.in_ok-get.ensures.data in
    let new = items_of c.put_objects.new.queue in
    let put_in : Type 0 = ArePutIn k ranks (entry_item s) (HasFilledSlot s) (entries_of node) old new in
    let answer : MatchResult c.put_objects.result (λ _. put_in) (IsRowCause (BreaksEntry s place) (entries_of node)) = c.put_objects.ensures in
    on-ok (λ _. put_in) (IsRowCause (BreaksEntry s place) (entries_of node)) (Enqueues (nodes_of s) (CanVisit (CanOpen s) (CanMeasure s)) level old new) c.put_objects.result answer
    (λ _ put. leaf-few s page node c.in_ok-node.ensures.0 level place held c.requires.node c.if-level-eq0.true k ranks old new put)

pub returns-then-level-eq0-clause-rows : goal.returns-then-level-eq0-clause-rows
returns-then-level-eq0-clause-rows g c = λ known.
    let s = content_of g.P.Pages g.C.Curve c.args.self.now in
    let place = c.args.place in
    let level = c.args.level in
    let k = c.args.best.now.most in
    let ranks = least_of c.args.best.now in
    let old = items_of c.args.queue.now in
    let page = c.get.new.into in
    let node = c.in_ok-node.node in
    let held : IsTrue s.is_known → page ≡ s.page_at place =
    held_page (g.P.Pages.is_known c.args.self.now.pages.now) (g.P.Pages.page_at c.args.self.now.pages.now) page place c.in_ok-get.ensures.data in
    let new = items_of c.put_objects.new.queue in
    let put_in : Type 0 = ArePutIn k ranks (entry_item s) (HasFilledSlot s) (entries_of node) old new in
    let answer : MatchResult c.put_objects.result (λ _. put_in) (IsRowCause (BreaksEntry s place) (entries_of node)) = c.put_objects.ensures in
    on-ok (λ _. put_in) (IsRowCause (BreaksEntry s place) (entries_of node)) (Expands (nodes_of s) (IsSoundNode s) k ranks level place old new) c.put_objects.result answer
    (λ _ put. leaf-rows s page node c.in_ok-node.ensures.0 level place held c.requires.node c.if-level-eq0.true k ranks old new put known)

pub returns-clause-tells : goal.returns-clause-tells
returns-clause-tells g c =
    let s = content_of g.P.Pages g.C.Curve c.args.self.now in
    let place = c.args.place in
    let level = c.args.level in
    let k = c.args.best.now.most in
    let ranks = least_of c.args.best.now in
    let old = items_of c.args.queue.now in
    let page = c.get.new.into in
    let node = c.in_ok-node.node in
    let held : IsTrue s.is_known → page ≡ s.page_at place =
    held_page (g.P.Pages.is_known c.args.self.now.pages.now) (g.P.Pages.page_at c.args.self.now.pages.now) page place c.in_ok-get.ensures.data in
    let new = items_of c.put_children.new.queue in
    let l = level - 1 in
    let inner : level ≡ suc l = omega (arith, c.if-level-eq0.false) in
    let live = is_live (g.P.Pages.in_pool c.args.self.now.pages.now) (g.P.Pages.free c.args.self.now.pages.now) in
    let same : is_live (g.P.Pages.in_pool c.get.new.self) (g.P.Pages.free c.get.new.self) ≡ live = ap₂ is_live c.get.ensures.map.1 c.get.ensures.free.0 in
    let put_in : Type 0 = ArePutIn k ranks (branch_item s l) (HasLiveChild s) (branches_of node) old new in
    let answer : MatchResult c.put_children.result (λ _. put_in) (IsRowCause (BreaksBranch s place) (branches_of node)) =
    subst (λ (alive : ℕ → Bool). MatchResult c.put_children.result
    (λ _. ArePutIn k ranks (branch_item s l) (HasLiveChild (with_live s alive)) (branches_of node) old new)
    (IsRowCause (BreaksBranch (with_live s alive) place) (branches_of node))) same c.put_children.ensures in
    inner-tells s page node c.in_ok-node.ensures.0 level place held c.requires.node l inner (λ _. put_in) c.put_children.result answer

pub returns-clause-few : goal.returns-clause-few
returns-clause-few g c =
    let s = content_of g.P.Pages g.C.Curve c.args.self.now in
    let place = c.args.place in
    let level = c.args.level in
    let k = c.args.best.now.most in
    let ranks = least_of c.args.best.now in
    let old = items_of c.args.queue.now in
    let page = c.get.new.into in
    let node = c.in_ok-node.node in
    let held : IsTrue s.is_known → page ≡ s.page_at place =
    held_page (g.P.Pages.is_known c.args.self.now.pages.now) (g.P.Pages.page_at c.args.self.now.pages.now) page place c.in_ok-get.ensures.data in
    let new = items_of c.put_children.new.queue in
    let l = level - 1 in
    let inner : level ≡ suc l = omega (arith, c.if-level-eq0.false) in
    let live = is_live (g.P.Pages.in_pool c.args.self.now.pages.now) (g.P.Pages.free c.args.self.now.pages.now) in
    let same : is_live (g.P.Pages.in_pool c.get.new.self) (g.P.Pages.free c.get.new.self) ≡ live = ap₂ is_live c.get.ensures.map.1 c.get.ensures.free.0 in
    let put_in : Type 0 = ArePutIn k ranks (branch_item s l) (HasLiveChild s) (branches_of node) old new in
    let answer : MatchResult c.put_children.result (λ _. put_in) (IsRowCause (BreaksBranch s place) (branches_of node)) =
    subst (λ (alive : ℕ → Bool). MatchResult c.put_children.result
    (λ _. ArePutIn k ranks (branch_item s l) (HasLiveChild (with_live s alive)) (branches_of node) old new)
    (IsRowCause (BreaksBranch (with_live s alive) place) (branches_of node))) same c.put_children.ensures in
    on-ok (λ _. put_in) (IsRowCause (BreaksBranch s place) (branches_of node)) (Enqueues (nodes_of s) (CanVisit (CanOpen s) (CanMeasure s)) level old new) c.put_children.result answer
    (λ _ put. inner-few s page node c.in_ok-node.ensures.0 level place held c.requires.node l inner k ranks old new put)

pub returns-clause-rows : goal.returns-clause-rows
returns-clause-rows g c = λ known.
    let s = content_of g.P.Pages g.C.Curve c.args.self.now in
    let place = c.args.place in
    let level = c.args.level in
    let k = c.args.best.now.most in
    let ranks = least_of c.args.best.now in
    let old = items_of c.args.queue.now in
    let page = c.get.new.into in
    let node = c.in_ok-node.node in
    let held : IsTrue s.is_known → page ≡ s.page_at place =
    held_page (g.P.Pages.is_known c.args.self.now.pages.now) (g.P.Pages.page_at c.args.self.now.pages.now) page place c.in_ok-get.ensures.data in
    let new = items_of c.put_children.new.queue in
    let l = level - 1 in
    let inner : level ≡ suc l = omega (arith, c.if-level-eq0.false) in
    let live = is_live (g.P.Pages.in_pool c.args.self.now.pages.now) (g.P.Pages.free c.args.self.now.pages.now) in
    let same : is_live (g.P.Pages.in_pool c.get.new.self) (g.P.Pages.free c.get.new.self) ≡ live = ap₂ is_live c.get.ensures.map.1 c.get.ensures.free.0 in
    let put_in : Type 0 = ArePutIn k ranks (branch_item s l) (HasLiveChild s) (branches_of node) old new in
    let answer : MatchResult c.put_children.result (λ _. put_in) (IsRowCause (BreaksBranch s place) (branches_of node)) =
    subst (λ (alive : ℕ → Bool). MatchResult c.put_children.result
    (λ _. ArePutIn k ranks (branch_item s l) (HasLiveChild (with_live s alive)) (branches_of node) old new)
    (IsRowCause (BreaksBranch (with_live s alive) place) (branches_of node))) same c.put_children.ensures in
    on-ok (λ _. put_in) (IsRowCause (BreaksBranch s place) (branches_of node)) (Expands (nodes_of s) (IsSoundNode s) k ranks level place old new) c.put_children.result answer
    (λ _ put. inner-rows s page node c.in_ok-node.ensures.0 level place held c.requires.node l inner k ranks old new put known)
