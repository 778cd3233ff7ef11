use Rattle.std.proofs.Common.{refl, sym, ◌∙◌}
use Rattle.std.proofs.lemmas.Bool.{eqb-true}
use Rattle.bptree_shrink.proofs.Settling.{given-shrinks, leaf-gone}
use Rattle.bptree_shrink.proofs.root.settle_leaf.Goals as goal

pub returns-then-is_empty-clause-settles : goal.returns-then-is_empty-clause-settles
returns-then-is_empty-clause-settles g c =
    leaf-gone c.args.root (record { page = 0; height = 0 }) c.args.entries.now (g.P.Pages.page_at c.args.pages.now) (g.P.Pages.page_at c.give_page.new.self) (g.P.Pages.free c.args.pages.now)
    (g.P.Pages.free c.give_page.new.self) (eqb-true _ 0 (sym c.is_empty.ensures ∙ c.if-is_empty.true)) refl c.give_page.ensures.pages c.give_page.ensures.given

pub returns-then-is_empty-clause-pages : goal.returns-then-is_empty-clause-pages
returns-then-is_empty-clause-pages g c =
    let given = c.give_page.ensures in
    given-shrinks c.args.pages.now c.give_page.new.self c.args.root.page given.given given.told given.map given.open given.calm
