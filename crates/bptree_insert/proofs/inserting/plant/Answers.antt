use Rattle.std.proofs.Common.{ℕ, [], ◌∷◌, sym, subst, arith}
use Rattle.std.specs.Prelude.{Bool, IsTrue}
use Rattle.bptree_node.specs.Nodes.{Leaf}
use Rattle.bptree_edit.proofs.Counts.{taken_pool}
use Rattle.bptree_insert.proofs.PageSteps.{grow-grow, taken-grow, written-taken}
use Rattle.bptree_insert.proofs.inserting.plant.Goals as goal

pub put_leaf-requires-clause-pool : goal.put_leaf-requires-clause-pool
put_leaf-requires-clause-pool g c =
    let P = g.P.Pages in
    subst (λ (pool : ℕ → Bool). IsTrue (pool c.take_page-page.result)) (sym c.take_page-page.ensures.map.1)
    (taken_pool (P.in_pool c.args.pages.now) (P.free c.args.pages.now) (P.free c.take_page-page.new.self) c.take_page-page.result c.take_page-page.ensures.free.0 c.take_page-page.ensures.taken)

pub returns-clause-written : goal.returns-clause-written
returns-clause-written g c =
    let P = g.P.Pages in
    written-taken c.take_page-page.result (Leaf (c.args.e ∷ [])) (P.page_at c.args.pages.now) (P.page_at c.take_page-page.new.self) (P.page_at c.put_leaf.new.pages)
    (P.free c.args.pages.now) (P.free c.take_page-page.new.self) (P.free c.put_leaf.new.pages) c.take_page-page.ensures.pages c.put_leaf.ensures.written
    c.take_page-page.ensures.taken c.put_leaf.ensures.free

pub returns-clause-pages : goal.returns-clause-pages
returns-clause-pages g c =
    let chains = g.met.P.Pages.calm_chains in
    let t = c.take_page-page.ensures in
    grow-grow chains (taken-grow c.args.pages.now c.take_page-page.new.self c.take_page-page.result t.taken t.told t.map t.open t.calm) c.put_leaf.ensures.pages 1 1 (omega arith) (omega arith)
