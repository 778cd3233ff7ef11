use Rattle.std.proofs.Common.{◌≡◌, ℕ, ◌-◌, suc, List, [], ◌∷◌, map, sym, ap, subst, ◌∙◌, arith}
use Rattle.std.specs.Prelude.{IsTrue, IsPermutation}
use Rattle.near_search.specs.declared.queue.Waiting.{Waiting}
use Rattle.near_search.specs.declared.queue.Kind.TheVariants.{Node}
use Rattle.near_search.specs.Items.{items_of}
use Rattle.shelf_tree.specs.Contents.{content_of}
use Rattle.near_tree.proofs.Rooted.{permuted-none, permuted-one, none_there, one_there}
use Rattle.near_tree.proofs.root.queue_of_root.Goals as goal

pub returns-then-tree-eq0 : goal.returns-then-tree-eq0
returns-then-tree-eq0 g c =
    let none : items_of c.of-queue.result ≡ [] =
    permuted-none (items_of c.of-queue.result)
    (subst (λ ws. IsPermutation (map (λ turned. turned.0) ws) (items_of c.of-queue.result)) c.new.ensures.items c.of-queue.ensures) in
    none_there (content_of g.P.Pages g.C.Curve c.args.tree.now) (items_of c.of-queue.result) c.if-tree-eq0.true none

pub returns : goal.returns
returns g c =
    let s = content_of g.P.Pages g.C.Curve c.args.tree.now in
    let none : items_of c.of-queue.result ≡ [] =
    permuted-none (items_of c.of-queue.result)
    (subst (λ ws. IsPermutation (map (λ turned. turned.0) ws) (items_of c.of-queue.result)) c.new.ensures.items c.of-queue.ensures) in
    let l : ℕ = s.root.height - 1 in
    let item : Waiting = record { bound = 0; kind = Node l; place = s.root.page } in
    let high : s.root.height ≡ suc l = omega (arith, c.if-tree-eq0.false) in
    let live : IsTrue (s.is_live s.root.page) = sym c.if-not-is_live.ensures.live in
    one_there s (items_of c.put.new.self) l high live
    (permuted-one item (items_of c.put.new.self) (subst (λ ws. IsPermutation (item ∷ ws) (items_of c.put.new.self)) none c.in_ok-put.ensures))
