use Rattle.std.proofs.Common.{rules, ◌-◌, sym}
use Rattle.bptree_walk.proofs.Staying.{live_of}
use Rattle.tree_check.specs.Checks.{TellsBreakAt}
use Rattle.bptree_node.specs.Summaries.{HasCorners}
use Rattle.tree_check.proofs.Stepping.{level-above}
use Rattle.tree_check.proofs.Rooting.{empty-checks, root-checks, root-tells}
use Rattle.page_laws.specs.Errors.{TellsNoDamage}
use Rattle.tree_check.proofs.Sound.{sound-tells}
use Rattle.tree_check.proofs.tree.check_tree.Goals as goal

pub returns-then-root-eq0-clause-checks : goal.returns-then-root-eq0-clause-checks
returns-then-root-eq0-clause-checks g c = λ known.
    empty-checks g.S.Summary.joined (g.F.Boxes.entry_box c.args.boxes.now) (g.F.Boxes.keys_of c.args.boxes.now) (g.P.Pages.page_at c.args.pages.now) (live_of g.P.Pages c.args.pages.now) c.args.root
    c.args.used.now c.args.used.now c.args.entries.now.items c.args.entries.now.items c.if-root-eq0.true (c.requires.empty c.if-root-eq0.true)

pub returns-in_err-check_node-clause-checks : goal.returns-in_err-check_node-clause-checks
returns-in_err-check_node-clause-checks g c = λ known.
    let bad : TellsBreakAt (g.F.Boxes.entry_box c.args.boxes.now) (HasCorners g.S.Summary.joined (g.F.Boxes.entry_box c.args.boxes.now) (g.F.Boxes.keys_of c.args.boxes.now))
    (g.P.Pages.page_at c.args.pages.now) (live_of g.P.Pages c.args.pages.now) c.args.used.now c.args.root.height c.args.root.page c.in_err-check_node.field-0.0 =
    root-tells g.S.Summary.joined (g.F.Boxes.entry_box c.args.boxes.now) (g.F.Boxes.keys_of c.args.boxes.now) (g.P.Pages.page_at c.args.pages.now) (live_of g.P.Pages c.args.pages.now) c.args.root
    c.args.used.now c.check_node.new.used c.args.entries.now.items c.check_node.new.entries.items (c.args.root.height - 1) (sym (level-above c.args.root.height c.if-root-eq0.false)) c.requires.height
    c.in_err-check_node.field-0.0 (c.in_err-check_node.ensures.checks known)
    in search (rules, bad)

pub returns-clause-checks : goal.returns-clause-checks
returns-clause-checks g c = λ known.
    root-checks g.S.Summary.joined (g.F.Boxes.entry_box c.args.boxes.now) (g.F.Boxes.keys_of c.args.boxes.now) (g.P.Pages.page_at c.args.pages.now) (live_of g.P.Pages c.args.pages.now) c.args.root
    c.args.used.now c.check_node.new.used c.args.entries.now.items c.check_node.new.entries.items (c.args.root.height - 1) (sym (level-above c.args.root.height c.if-root-eq0.false)) c.requires.height
    c.in_ok-check_node.field-0 (c.in_ok-check_node.ensures.checks known)

pub returns-in_err-check_node-clause-sound : goal.returns-in_err-check_node-clause-sound
returns-in_err-check_node-clause-sound g c = λ known tree.
    let over = level-above c.args.root.height c.if-root-eq0.false in
    let calm : TellsNoDamage c.in_err-check_node.field-0.0 =
    sound-tells g.S.Summary.joined (g.F.Boxes.entry_box c.args.boxes.now) (g.F.Boxes.keys_of c.args.boxes.now) (g.P.Pages.page_at c.args.pages.now) (live_of g.P.Pages c.args.pages.now) c.args.used.now
    c.args.root (c.args.root.height - 1) (sym over) tree c.in_err-check_node.field-0.0
    (root-tells g.S.Summary.joined (g.F.Boxes.entry_box c.args.boxes.now) (g.F.Boxes.keys_of c.args.boxes.now) (g.P.Pages.page_at c.args.pages.now) (live_of g.P.Pages c.args.pages.now) c.args.root
    c.args.used.now c.check_node.new.used c.args.entries.now.items c.check_node.new.entries.items (c.args.root.height - 1) (sym over) c.requires.height
    c.in_err-check_node.field-0.0 (c.in_err-check_node.ensures.checks known))
    in search (rules, calm)
