use Rattle.std.proofs.Common.{List, sym, subst, arith}
use Rattle.std.specs.Prelude.{IsSome}
use Rattle.std.specs.List.{AllByRecursion}
use Rattle.bptree_node.specs.declared.layout.TheConstants.{MOST_ENTRIES}
use Rattle.bptree_node.specs.declared.rows.Entry.{Entry}
use Rattle.bptree_node.specs.Nodes.{Leaf}
use Rattle.bptree_edit.specs.Parts.{IsLeafPart}
use Rattle.bptree_edit.proofs.Summing.{summary-some}
use Rattle.bptree_edit.proofs.Lists.{all-take, all-drop}
use Rattle.bptree_mend.proofs.Giving.{put-given, joined-given}
use Rattle.bptree_mend.proofs.leaves.mend_leaves.Goals as goal

pub returns-in_default-clause-sound : goal.returns-in_default-clause-sound
returns-in_default-clause-sound g c = λ all.
    absurd (summary-some g.S.Summary.joined (g.F.Boxes.entry_box c.args.boxes.now) c.args.entries.now (omega (arith, c.requires.some)) all c.in_default.ensures.part)

pub returns-then-entries-le-MOST_ENTRIES-clause-mends : goal.returns-then-entries-le-MOST_ENTRIES-clause-mends
returns-then-entries-le-MOST_ENTRIES-clause-mends g c =
    let P = g.P.Pages in
    joined-given (λ (es : List Entry). Leaf es) (IsLeafPart g.S.Summary.joined (g.F.Boxes.entry_box c.args.boxes.now)) MOST_ENTRIES c.args.left c.args.right c.args.entries.now
    (P.page_at c.args.pages.now) (P.page_at c.put_leaf.new.pages) (P.page_at c.give_page.new.self) (P.free c.args.pages.now) (P.free c.put_leaf.new.pages) (P.free c.give_page.new.self) c.in-Some.part
    c.if-entries-le-MOST_ENTRIES.true c.in-Some.ensures.part c.put_leaf.ensures.written c.put_leaf.ensures.free c.give_page.ensures.pages c.give_page.ensures.given

pub returns-then-entries-le-MOST_ENTRIES-clause-pages : goal.returns-then-entries-le-MOST_ENTRIES-clause-pages
returns-then-entries-le-MOST_ENTRIES-clause-pages g c =
    let given = c.give_page.ensures in
    put-given c.args.pages.now c.put_leaf.new.pages c.give_page.new.self c.args.right g.met.P.Pages.calm_chains c.put_leaf.ensures.pages c.put_leaf.ensures.free given.given given.told given.map
    given.open given.calm

pub returns-in_default-leaf_part-clause-sound : goal.returns-in_default-leaf_part-clause-sound
returns-in_default-leaf_part-clause-sound g c = λ all.
    absurd (summary-some g.S.Summary.joined (g.F.Boxes.entry_box c.args.boxes.now) c.split_at.result.0.now (omega (arith, c.split_at.ensures.front_len, c.if-entries-le-MOST_ENTRIES.false))
    (subst (λ (es : List Entry). AllByRecursion (λ (e : Entry). IsSome (g.F.Boxes.entry_box c.args.boxes.now e)) es) (sym c.split_at.ensures.front) (all-take _ _ c.args.entries.now all))
    c.in_default-leaf_part.ensures.part)

pub returns-in_default-leaf_part-2-clause-sound : goal.returns-in_default-leaf_part-2-clause-sound
returns-in_default-leaf_part-2-clause-sound g c = λ all.
    absurd (summary-some g.S.Summary.joined (g.F.Boxes.entry_box c.args.boxes.now) c.split_at.result.1.now (omega (arith, c.split_at.ensures.back_len, c.if-entries-le-MOST_ENTRIES.false))
    (subst (λ (es : List Entry). AllByRecursion (λ (e : Entry). IsSome (g.F.Boxes.entry_box c.args.boxes.now e)) es) (sym c.split_at.ensures.back) (all-drop _ _ c.args.entries.now all))
    c.in_default-leaf_part-2.ensures.part)
