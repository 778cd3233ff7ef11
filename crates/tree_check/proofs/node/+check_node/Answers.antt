use Rattle.std.proofs.Common.{rules, ◌≡◌, ◌+◌, ◌-◌, ◌≤◌, List, length, sym, ap, ◌∙◌, arith}
use Rattle.std.specs.Prelude.{IsTrue, Some}
use Rattle.bptree_node.specs.declared.rows.Branch.{Branch}
use Rattle.bptree_node.specs.Nodes.{Inner, node_in}
use Rattle.bptree_node.specs.Summaries.{HasCorners, summary_of}
use Rattle.bptree_edit.specs.NodesAt.{times, pages_under, least_rows}
use Rattle.bptree_edit.proofs.Summing.{join_of_laws}
use Rattle.bptree_walk.proofs.Staying.{live_of, stays_on}
use Rattle.tree_check.specs.PageSets.{uses, has}
use Rattle.tree_check.specs.Damage.{TellsBreak}
use Rattle.tree_check.proofs.Sets.{uses-more, was_there, was_new}
use Rattle.tree_check.proofs.Advancing.{none-checked}
use Rattle.tree_check.proofs.Stepping.{used-tells, leaf-checks, inner-checks, child-tells, unmatched-tells, holds-on, matched-moved, unmatched-moved, node-checked, node-boxed}
use Rattle.tree_check.proofs.node.+check_node.Goals as goal

pub returns-then-not-insert-clause-checks : goal.returns-then-not-insert-clause-checks
returns-then-not-insert-clause-checks g t c = λ known.
    used-tells g.S.Summary.joined (g.F.Boxes.entry_box c.args.boxes.now) (g.F.Boxes.keys_of c.args.boxes.now) (g.P.Pages.page_at c.args.pages.now) (live_of g.P.Pages c.args.pages.now) c.args.at
    c.args.used.now c.damaged-then-not-insert.result c.damaged-then-not-insert.ensures (was_there (has c.args.used.now c.args.at.page) (sym c.insert.ensures.new ∙ c.if-not-insert.true))

pub returns-then-at-eq0-clause-checks : goal.returns-then-at-eq0-clause-checks
returns-then-at-eq0-clause-checks g t c = λ known.
    leaf-checks g.S.Summary.joined (g.F.Boxes.entry_box c.args.boxes.now) (g.F.Boxes.keys_of c.args.boxes.now) (g.P.Pages.page_at c.args.pages.now) (live_of g.P.Pages c.args.pages.now) c.args.at
    c.args.used.now c.insert.new.self c.args.entries.now.items c.check_leaf.new.entries.items c.get.new.into c.check_leaf.result c.if-at-eq0.true (c.in_ok-get.ensures.data known)
    (λ m. uses-more c.args.used.now c.insert.new.self c.args.at.page m (c.insert.ensures.members m) (was_new (has c.args.used.now c.args.at.page) (sym c.insert.ensures.new ∙ c.if-not-insert.false)))
    (sym c.is_live.ensures.live ∙ c.if-not-is_live.false) c.check_leaf.ensures.checks

pub returns-in_err-branches-clause-checks : goal.returns-in_err-branches-clause-checks
returns-in_err-branches-clause-checks g t c = λ known.
    let bad : TellsBreak (g.F.Boxes.entry_box c.args.boxes.now) (HasCorners g.S.Summary.joined (g.F.Boxes.entry_box c.args.boxes.now) (g.F.Boxes.keys_of c.args.boxes.now))
    (g.P.Pages.page_at c.args.pages.now) (live_of g.P.Pages c.args.pages.now) (λ m. uses c.args.used.now m + times m (pages_under (g.P.Pages.page_at c.args.pages.now) c.args.at.level c.args.at.page))
    c.args.at.parent c.args.at.level c.args.at.page c.in_err-branches.field-0.0 =
    inner-checks g.S.Summary.joined (g.F.Boxes.entry_box c.args.boxes.now) (g.F.Boxes.keys_of c.args.boxes.now) (g.P.Pages.page_at c.args.pages.now) (live_of g.P.Pages c.args.pages.now) c.args.at
    c.args.used.now c.get.new.into c.in_err-branches.field-0.0 c.if-at-eq0.false (c.in_ok-get.ensures.data known) c.in_err-branches.ensures.inner.0 c.in_err-branches.ensures.inner.1
    in search (rules, bad)

pub loop-branch-init : goal.loop-branch-init
loop-branch-init g t c =
    let got = c.in_ok-get.ensures in
    record {
      told = λ known.
          none-checked (HasCorners g.S.Summary.joined (g.F.Boxes.entry_box c.args.boxes.now) (g.F.Boxes.keys_of c.args.boxes.now)) (g.P.Pages.page_at c.args.pages.now) (live_of g.P.Pages c.args.pages.now)
          (c.args.at.level - 1) c.args.at.page c.args.used.now c.insert.new.self c.args.entries.now.items
          (λ m. uses-more c.args.used.now c.insert.new.self c.args.at.page m (c.insert.ensures.members m) (was_new (has c.args.used.now c.args.at.page) (sym c.insert.ensures.new ∙ c.if-not-insert.false)))
          (sym c.is_live.ensures.live ∙ c.if-not-is_live.false);
      range = c.insert.ensures.range;
      longer = omega arith;
      stay = record {
        continues = record { told = got.told; map = got.map.0; pool = got.map.1; free_pages = got.free.0; change = got.open.0; calmly = got.calm };
        contents = got.pages;
        put = got.open.1;
      };
      faults = search (rules, got.fault);
    }

pub returns-in_err-child-clause-checks : goal.returns-in_err-child-clause-checks
returns-in_err-child-clause-checks g t c = λ known.
    let bs = c.deref-branch-items.result.now in
    let node : IsTrue (g.P.Pages.is_known c.args.pages.now) → node_in (g.P.Pages.page_at c.args.pages.now c.args.at.page) ≡ Some (Inner bs) =
    λ is. sym (ap node_in (c.in_ok-get.ensures.data is)) ∙ c.in_ok-branches.ensures.inner ∙ ap (λ (cs : List Branch). Some (Inner cs)) (sym c.deref-branch-items.ensures.0) in
    let bad : TellsBreak (g.F.Boxes.entry_box c.args.boxes.now) (HasCorners g.S.Summary.joined (g.F.Boxes.entry_box c.args.boxes.now) (g.F.Boxes.keys_of c.args.boxes.now))
    (g.P.Pages.page_at c.args.pages.now) (live_of g.P.Pages c.args.pages.now) (λ m. uses c.args.used.now m + times m (pages_under (g.P.Pages.page_at c.args.pages.now) c.args.at.level c.args.at.page))
    c.args.at.parent c.args.at.level c.args.at.page c.in_err-child.field-0.0 =
    child-tells g.P.Pages g.S.Summary.joined (g.F.Boxes.entry_box c.args.boxes.now) (g.F.Boxes.keys_of c.args.boxes.now) c.args.pages.now c.loop-branch.pages c.args.at c.if-at-eq0.false
    bs c.loop-branch.branch-index _ c.args.used.now c.loop-branch.used c.args.entries.now.items c.loop-branch.entries.items c.loop-branch.invariant node c.loop-branch-test.true c.below.result
    c.below.ensures c.check_node.new.used c.check_node.new.entries.items c.in_err-child.field-0.0 c.in_err-child.ensures.checks known
    in search (rules, bad)

pub returns-in_err-check_branch-clause-checks : goal.returns-in_err-check_branch-clause-checks
returns-in_err-check_branch-clause-checks g t c = λ known.
    let bs = c.deref-branch-items.result.now in
    let node : IsTrue (g.P.Pages.is_known c.args.pages.now) → node_in (g.P.Pages.page_at c.args.pages.now c.args.at.page) ≡ Some (Inner bs) =
    λ is. sym (ap node_in (c.in_ok-get.ensures.data is)) ∙ c.in_ok-branches.ensures.inner ∙ ap (λ (cs : List Branch). Some (Inner cs)) (sym c.deref-branch-items.ensures.0) in
    let first = c.len-start.result in
    let from = c.len-from.result in
    let begins : first ≡ length c.args.entries.now.items = omega (arith, c.len-start.ensures) in
    let ends : from ≡ length c.loop-branch.entries.items = omega (arith, c.len-from.ensures) in
    let bad : TellsBreak (g.F.Boxes.entry_box c.args.boxes.now) (HasCorners g.S.Summary.joined (g.F.Boxes.entry_box c.args.boxes.now) (g.F.Boxes.keys_of c.args.boxes.now))
    (g.P.Pages.page_at c.args.pages.now) (live_of g.P.Pages c.args.pages.now) (λ m. uses c.args.used.now m + times m (pages_under (g.P.Pages.page_at c.args.pages.now) c.args.at.level c.args.at.page))
    c.args.at.parent c.args.at.level c.args.at.page c.in_err-check_branch.field-0.0 =
    unmatched-tells g.P.Pages g.S.Summary.joined (g.F.Boxes.entry_box c.args.boxes.now) (g.F.Boxes.keys_of c.args.boxes.now) c.args.pages.now c.loop-branch.pages c.args.at c.if-at-eq0.false
    bs c.loop-branch.branch-index _ c.args.used.now c.loop-branch.used c.args.entries.now.items c.loop-branch.entries.items c.loop-branch.invariant node c.loop-branch-test.true c.below.result
    c.below.ensures c.check_node.new.used c.check_node.new.entries.items first from begins ends c.in_ok-child.child c.in_ok-child.ensures.checks c.in_err-check_branch.field-0.0
    (unmatched-moved (g.F.Boxes.keys_of c.args.boxes.now) (least_rows (c.args.at.level - 1)) c.args.at.page _ first from c.in_ok-child.child c.deref.result.now c.deref-in-loop-branch.result.now
    c.check_node.new.entries.items c.deref.ensures.value c.deref-in-loop-branch.ensures.value c.in_err-check_branch.field-0.0 c.in_err-check_branch.ensures) known
    in search (rules, bad)

pub returns-in_err-check_branch-clause-stay : goal.returns-in_err-check_branch-clause-stay
returns-in_err-check_branch-clause-stay g t c =
    stays_on g.P.Pages c.args.pages.now c.loop-branch.pages c.loop-branch.invariant.stay g.met.P.Pages.calm_chains c.check_node.new.pages c.check_node.ensures.stay

pub loop-branch-preserved : goal.loop-branch-preserved
loop-branch-preserved g t c =
    let bs = c.deref-branch-items.result.now in
    let node : IsTrue (g.P.Pages.is_known c.args.pages.now) → node_in (g.P.Pages.page_at c.args.pages.now c.args.at.page) ≡ Some (Inner bs) =
    λ is. sym (ap node_in (c.in_ok-get.ensures.data is)) ∙ c.in_ok-branches.ensures.inner ∙ ap (λ (cs : List Branch). Some (Inner cs)) (sym c.deref-branch-items.ensures.0) in
    let first = c.len-start.result in
    let from = c.len-from.result in
    let begins : first ≡ length c.args.entries.now.items = omega (arith, c.len-start.ensures) in
    let ends : from ≡ length c.loop-branch.entries.items = omega (arith, c.len-from.ensures) in
    holds-on g.P.Pages g.S.Summary.joined (g.F.Boxes.entry_box c.args.boxes.now) (g.F.Boxes.keys_of c.args.boxes.now) c.args.pages.now c.loop-branch.pages c.args.at c.if-at-eq0.false
    bs c.loop-branch.branch-index _ c.args.used.now c.loop-branch.used c.args.entries.now.items c.loop-branch.entries.items c.loop-branch.invariant node c.loop-branch-test.true c.below.result
    c.below.ensures c.check_node.new.used c.check_node.new.entries.items first from begins ends c.in_ok-child.child c.in_ok-child.ensures.checks g.met.P.Pages.calm_chains c.check_node.new.pages
    (matched-moved (g.F.Boxes.keys_of c.args.boxes.now) (least_rows (c.args.at.level - 1)) c.args.at.page _ first from c.in_ok-child.child c.deref.result.now c.deref-in-loop-branch.result.now
    c.check_node.new.entries.items c.deref.ensures.value c.deref-in-loop-branch.ensures.value c.in_ok-check_branch.ensures)
    c.check_node.ensures.range c.in_ok-child.ensures.longer c.check_node.ensures.stay c.in_ok-child.ensures.fault

pub returns-in_default-clause-checks : goal.returns-in_default-clause-checks
returns-in_default-clause-checks g t c = λ known.
    let F = g.F.Boxes in
    let B = c.args.boxes.now in
    let laws = g.met.F.Boxes.box_laws B in
    let join = join_of_laws g.S.Summary.size g.S.Summary.joined (F.entry_box B) (F.branch_box B) (F.keys_of B) (F.is_made B) (F.width B) g.met.S.Summary.join_laws laws in
    let bs = c.deref-branch-items.result.now in
    let same : c.deref-2.result.now ≡ bs = c.deref-2.ensures.0 ∙ sym c.deref-branch-items.ensures.0 in
    let node : IsTrue (g.P.Pages.is_known c.args.pages.now) → node_in (g.P.Pages.page_at c.args.pages.now c.args.at.page) ≡ Some (Inner bs) =
    λ is. sym (ap node_in (c.in_ok-get.ensures.data is)) ∙ c.in_ok-branches.ensures.inner ∙ ap (λ (cs : List Branch). Some (Inner cs)) (sym c.deref-branch-items.ensures.0) in
    let done : length bs ≤ c.loop-branch.branch-index = omega (arith, c.loop-branch-test.false) in
    let some : 1 ≤ length bs = omega (arith, c.in_ok-branches.ensures.count.0, ap length c.deref-branch-items.ensures.0) in
    absurd (node-boxed g.P.Pages g.S.Summary.joined (F.entry_box B) (F.keys_of B) c.args.pages.now c.loop-branch.pages c.args.at c.if-at-eq0.false bs c.loop-branch.branch-index
    (record { key = 0; id = 0; child = 0; low = 0; high = 0 }) c.args.used.now c.loop-branch.used c.args.entries.now.items c.loop-branch.entries.items c.loop-branch.invariant done node
    (F.branch_box B) (F.is_made B) laws.entry_made laws.back join some
    (ap (summary_of g.S.Summary.joined (λ (b : Branch). F.branch_box B b.low b.high)) (sym same) ∙ c.in_default.ensures.part) known)

pub returns-clause-checks : goal.returns-clause-checks
returns-clause-checks g t c = λ known.
    let F = g.F.Boxes in
    let B = c.args.boxes.now in
    let laws = g.met.F.Boxes.box_laws B in
    let join = join_of_laws g.S.Summary.size g.S.Summary.joined (F.entry_box B) (F.branch_box B) (F.keys_of B) (F.is_made B) (F.width B) g.met.S.Summary.join_laws laws in
    let bs = c.deref-branch-items.result.now in
    let same : c.deref-2.result.now ≡ bs = c.deref-2.ensures.0 ∙ sym c.deref-branch-items.ensures.0 in
    let node : IsTrue (g.P.Pages.is_known c.args.pages.now) → node_in (g.P.Pages.page_at c.args.pages.now c.args.at.page) ≡ Some (Inner bs) =
    λ is. sym (ap node_in (c.in_ok-get.ensures.data is)) ∙ c.in_ok-branches.ensures.inner ∙ ap (λ (cs : List Branch). Some (Inner cs)) (sym c.deref-branch-items.ensures.0) in
    let done : length bs ≤ c.loop-branch.branch-index = omega (arith, c.loop-branch-test.false) in
    node-checked g.P.Pages g.S.Summary.joined (F.entry_box B) (F.keys_of B) c.args.pages.now c.loop-branch.pages c.args.at c.if-at-eq0.false bs c.loop-branch.branch-index
    (record { key = 0; id = 0; child = 0; low = 0; high = 0 }) c.args.used.now c.loop-branch.used c.args.entries.now.items c.loop-branch.entries.items c.loop-branch.invariant done node
    (F.branch_box B) (F.is_made B) laws.entry_made laws.back join (record { rows = c.len.result; summary = c.in-Some.part.summary })
    (c.len.ensures.value ∙ ap length (sym c.deref-branch-items.ensures.0))
    (ap (summary_of g.S.Summary.joined (λ (b : Branch). F.branch_box B b.low b.high)) (sym same) ∙ c.in-Some.ensures.part.is) known
