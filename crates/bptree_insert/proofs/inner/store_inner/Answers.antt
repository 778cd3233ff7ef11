use Rattle.std.proofs.Common.{refl, ℕ, List, sym, subst, ◌∙◌, arith}
use Rattle.std.specs.Prelude.{Bool, IsTrue, IsSome}
use Rattle.std.specs.List.{AllByRecursion}
use Rattle.bptree_node.specs.declared.rows.Branch.{Branch}
use Rattle.bptree_node.specs.Nodes.{Inner}
use Rattle.bptree_edit.specs.Parts.{IsInnerPart}
use Rattle.bptree_edit.specs.Steps.{IsWritten}
use Rattle.bptree_edit.proofs.Summing.{summary-some}
use Rattle.bptree_edit.proofs.Counts.{taken_pool}
use Rattle.bptree_edit.proofs.Lists.{all-drop}
use Rattle.bptree_insert.proofs.PageSteps.{grow-grow, taken-grow, written-two}
use Rattle.bptree_insert.proofs.inner.store_inner.Goals as goal

pub returns-in_default-inner_part-clause-sound : goal.returns-in_default-inner_part-clause-sound
returns-in_default-inner_part-clause-sound g c = λ all.
    let back = c.split_at.ensures.back in
    let none = c.in_default-inner_part.ensures.part in
    absurd (summary-some g.S.Summary.joined (λ (b : Branch). g.F.Boxes.branch_box c.args.boxes.now b.low b.high) c.split_at.result.1.now (omega arith)
    (subst (λ (es : List Branch). AllByRecursion (λ (b : Branch). IsSome (g.F.Boxes.branch_box c.args.boxes.now b.low b.high)) es) (sym back) (all-drop _ 7 c.args.branches.now all)) none)

pub put_inner-requires-3-clause-pool : goal.put_inner-requires-3-clause-pool
put_inner-requires-3-clause-pool g c =
    let P = g.P.Pages in
    subst (λ (pool : ℕ → Bool). IsTrue (pool c.take_page.result)) (sym (c.put_inner-2.ensures.pages.change.pool ∙ c.take_page.ensures.map.1))
    (taken_pool (P.in_pool c.args.pages.now) (P.free c.args.pages.now) (P.free c.take_page.new.self) c.take_page.result c.take_page.ensures.free.0 c.take_page.ensures.taken)

pub returns-clause-stores : goal.returns-clause-stores
returns-clause-stores g c =
    let P = g.P.Pages in
    let S = g.S.Summary in
    let box = g.F.Boxes.branch_box c.args.boxes.now in
    let front = c.split_at.ensures.front in
    let back = c.split_at.ensures.back in
    let long = c.if-branches-le-MOST_BRANCHES.false in
    let left = c.in-Some.ensures.part in
    let right = c.in-Some-inner_part.ensures.part in
    let low = c.put_inner-2.ensures.written in
    let high = c.put_inner-3.ensures.written in
    record {
      enough = omega (arith, long);
      first = subst (λ (es : List Branch). IsInnerPart S.joined box c.args.n es c.in-Some.left) front left;
      second = subst (λ (es : List Branch). IsInnerPart S.joined box c.take_page.result es (record c.in-Some-inner_part.right { page = c.take_page.result })) back
          (record { place = refl; first = right.first; is = right.is });
      written = written-two (P.in_pool c.args.pages.now) c.args.n c.take_page.result _ _ (P.page_at c.args.pages.now) (P.page_at c.take_page.new.self) (P.page_at c.put_inner-2.new.pages)
          (P.page_at c.put_inner-3.new.pages) (P.free c.args.pages.now) (P.free c.take_page.new.self) (P.free c.put_inner-2.new.pages) (P.free c.put_inner-3.new.pages)
          c.take_page.ensures.pages (subst (λ (es : List Branch). IsWritten c.args.n (Inner es) (P.page_at c.take_page.new.self) (P.page_at c.put_inner-2.new.pages)) front low)
          (subst (λ (es : List Branch). IsWritten c.take_page.result (Inner es) (P.page_at c.put_inner-2.new.pages) (P.page_at c.put_inner-3.new.pages)) back high)
          c.take_page.ensures.taken c.put_inner-2.ensures.free c.put_inner-3.ensures.free c.requires.live;
    }

pub returns-clause-pages : goal.returns-clause-pages
returns-clause-pages g c =
    let chains = g.met.P.Pages.calm_chains in
    let t = c.take_page.ensures in
    grow-grow chains (grow-grow chains (taken-grow c.args.pages.now c.take_page.new.self c.take_page.result t.taken t.told t.map t.open t.calm) c.put_inner-2.ensures.pages 1 1 (omega arith) (omega arith))
    c.put_inner-3.ensures.pages 1 2 (omega arith) (omega arith)
