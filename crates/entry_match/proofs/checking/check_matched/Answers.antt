use Rattle.std.proofs.Common.{sym, ◌∙◌}
use Rattle.bptree_walk.proofs.Staying.{live_of}
use Rattle.entry_match.proofs.Telling.{checked-matches, other-tells}
use Rattle.entry_match.proofs.checking.check_matched.Goals as goal

pub returns-in_default-clause-checks : goal.returns-in_default-clause-checks
returns-in_default-clause-checks g c = λ known.
    let boxes = c.args.boxes.now in
    checked-matches g.S.Summary.joined (g.F.Boxes.entry_box boxes.boxes.now) (g.F.Boxes.keys_of boxes.boxes.now) boxes.notes.now boxes.collection boxes.by_key
    (g.P.Pages.page_at c.args.pages.now) (live_of g.P.Pages c.args.pages.now) c.args.used.now c.args.root c.check_tree.new.used c.args.entries.now.items c.check_tree.new.entries.items
    (c.in_default.ensures.checks known)

pub returns-in_default-key_page-clause-checks : goal.returns-in_default-key_page-clause-checks
returns-in_default-key_page-clause-checks g c = λ known.
    let boxes = c.args.boxes.now in
    other-tells g.S.Summary.joined (g.F.Boxes.entry_box boxes.boxes.now) (g.F.Boxes.keys_of boxes.boxes.now) boxes.notes.now boxes.collection boxes.by_key
    (g.P.Pages.page_at c.args.pages.now) (live_of g.P.Pages c.args.pages.now) c.args.used.now c.args.root c.in-Err.why (sym c.key_page.ensures ∙ c.in_default-key_page.is)
    (c.in-Err.ensures.checks known)
