use Rattle.std.proofs.Common.{◌≡◌, ℕ, List, [], ◌∷◌, ap, sym, subst, ◌∙◌, arith}
use Rattle.std.specs.Prelude.{Bool, IsTrue}
use Rattle.bptree_node.specs.declared.rows.Branch.{Branch}
use Rattle.bptree_node.specs.Nodes.{Inner}
use Rattle.bptree_edit.specs.Steps.{IsWritten}
use Rattle.bptree_edit.specs.Parts.{branch_of}
use Rattle.bptree_edit.proofs.Counts.{taken_pool}
use Rattle.bptree_insert.proofs.PageSteps.{grow-grow, taken-grow, written-taken}
use Rattle.bptree_insert.proofs.inner.join_parts.Goals as goal

pub put_inner-requires-clause-pool : goal.put_inner-requires-clause-pool
put_inner-requires-clause-pool g c =
    let P = g.P.Pages in
    subst (λ (pool : ℕ → Bool). IsTrue (pool c.take_page-n.result)) (sym c.take_page-n.ensures.map.1)
    (taken_pool (P.in_pool c.args.pages.now) (P.free c.args.pages.now) (P.free c.take_page-n.new.self) c.take_page-n.result c.take_page-n.ensures.free.0 c.take_page-n.ensures.taken)

pub returns-clause-written : goal.returns-clause-written
returns-clause-written g c =
    let P = g.P.Pages in
    let keys = g.F.Boxes.keys_of c.args.boxes.now in
    let rows : c.branch_of.result ∷ c.branch_of-2.result ∷ [] ≡ branch_of keys c.args.left.now ∷ branch_of keys c.args.right.now ∷ [] =
    ap (λ (b : Branch). b ∷ c.branch_of-2.result ∷ []) c.branch_of.ensures ∙ ap (λ (b : Branch). branch_of keys c.args.left.now ∷ b ∷ []) c.branch_of-2.ensures in
    written-taken c.take_page-n.result _ (P.page_at c.args.pages.now) (P.page_at c.take_page-n.new.self) (P.page_at c.put_inner.new.pages)
    (P.free c.args.pages.now) (P.free c.take_page-n.new.self) (P.free c.put_inner.new.pages) c.take_page-n.ensures.pages
    (subst (λ (bs : List Branch). IsWritten c.take_page-n.result (Inner bs) (P.page_at c.take_page-n.new.self) (P.page_at c.put_inner.new.pages)) rows c.put_inner.ensures.written)
    c.take_page-n.ensures.taken c.put_inner.ensures.free

pub returns-clause-pages : goal.returns-clause-pages
returns-clause-pages g c =
    let chains = g.met.P.Pages.calm_chains in
    let t = c.take_page-n.ensures in
    grow-grow chains (taken-grow c.args.pages.now c.take_page-n.new.self c.take_page-n.result t.taken t.told t.map t.open t.calm) c.put_inner.ensures.pages 1 1 (omega arith) (omega arith)
