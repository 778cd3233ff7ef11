use Rattle.std.proofs.Common.{List, sym, subst, arith}
use Rattle.std.specs.Prelude.{IsSome}
use Rattle.std.specs.List.{AllByRecursion}
use Rattle.bptree_node.specs.declared.layout.TheConstants.{MOST_BRANCHES}
use Rattle.bptree_node.specs.declared.rows.Branch.{Branch}
use Rattle.bptree_node.specs.Nodes.{Inner}
use Rattle.bptree_edit.specs.Parts.{IsInnerPart}
use Rattle.bptree_edit.proofs.Summing.{summary-some}
use Rattle.bptree_edit.proofs.Lists.{all-take, all-drop}
use Rattle.bptree_mend.proofs.Giving.{put-given, joined-given}
use Rattle.bptree_mend.proofs.inners.mend_inners.Goals as goal

pub returns-in_default-clause-sound : goal.returns-in_default-clause-sound
returns-in_default-clause-sound g c = λ all.
    absurd (summary-some g.S.Summary.joined (λ (b : Branch). g.F.Boxes.branch_box c.args.boxes.now b.low b.high) c.args.branches.now (omega (arith, c.requires.some)) all c.in_default.ensures.part)

pub returns-then-branches-le-MOST_BRANCHES-clause-mends : goal.returns-then-branches-le-MOST_BRANCHES-clause-mends
returns-then-branches-le-MOST_BRANCHES-clause-mends g c =
    let P = g.P.Pages in
    joined-given (λ (es : List Branch). Inner es) (IsInnerPart g.S.Summary.joined (g.F.Boxes.branch_box c.args.boxes.now)) MOST_BRANCHES c.args.left c.args.right c.args.branches.now
    (P.page_at c.args.pages.now) (P.page_at c.put_inner.new.pages) (P.page_at c.give_page.new.self) (P.free c.args.pages.now) (P.free c.put_inner.new.pages) (P.free c.give_page.new.self) c.in-Some.part
    c.if-branches-le-MOST_BRANCHES.true c.in-Some.ensures.part c.put_inner.ensures.written c.put_inner.ensures.free c.give_page.ensures.pages c.give_page.ensures.given

pub returns-then-branches-le-MOST_BRANCHES-clause-pages : goal.returns-then-branches-le-MOST_BRANCHES-clause-pages
returns-then-branches-le-MOST_BRANCHES-clause-pages g c =
    let given = c.give_page.ensures in
    put-given c.args.pages.now c.put_inner.new.pages c.give_page.new.self c.args.right g.met.P.Pages.calm_chains c.put_inner.ensures.pages c.put_inner.ensures.free given.given given.told given.map
    given.open given.calm

pub returns-in_default-inner_part-clause-sound : goal.returns-in_default-inner_part-clause-sound
returns-in_default-inner_part-clause-sound g c = λ all.
    absurd (summary-some g.S.Summary.joined (λ (b : Branch). g.F.Boxes.branch_box c.args.boxes.now b.low b.high) c.split_at.result.0.now (omega (arith, c.split_at.ensures.front_len, c.if-branches-le-MOST_BRANCHES.false))
    (subst (λ (es : List Branch). AllByRecursion (λ (b : Branch). IsSome (g.F.Boxes.branch_box c.args.boxes.now b.low b.high)) es) (sym c.split_at.ensures.front) (all-take _ _ c.args.branches.now all))
    c.in_default-inner_part.ensures.part)

pub returns-in_default-inner_part-2-clause-sound : goal.returns-in_default-inner_part-2-clause-sound
returns-in_default-inner_part-2-clause-sound g c = λ all.
    absurd (summary-some g.S.Summary.joined (λ (b : Branch). g.F.Boxes.branch_box c.args.boxes.now b.low b.high) c.split_at.result.1.now (omega (arith, c.split_at.ensures.back_len, c.if-branches-le-MOST_BRANCHES.false))
    (subst (λ (es : List Branch). AllByRecursion (λ (b : Branch). IsSome (g.F.Boxes.branch_box c.args.boxes.now b.low b.high)) es) (sym c.split_at.ensures.back) (all-drop _ _ c.args.branches.now all))
    c.in_default-inner_part-2.ensures.part)
