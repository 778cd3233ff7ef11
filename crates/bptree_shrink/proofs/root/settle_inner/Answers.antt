use Rattle.std.proofs.Common.{◌-◌, get_or, refl, arith}
use Rattle.bptree_node.specs.declared.rows.Branch.{Branch}
use Rattle.bptree_shrink.proofs.Settling.{given-shrinks, inner-gone}
use Rattle.bptree_shrink.proofs.root.settle_inner.Goals as goal

pub returns-then-branches-eq1-clause-settles : goal.returns-then-branches-eq1-clause-settles
returns-then-branches-eq1-clause-settles g c =
    let d : Branch = record { key = 0; id = 0; child = 0; low = 0; high = 0 } in
    inner-gone c.args.root (record { page = (get_or c.args.branches.now 0 d).child; height = c.args.root.height - 1 }) c.args.branches.now d (g.P.Pages.page_at c.args.pages.now)
    (g.P.Pages.page_at c.give_page.new.self) (g.P.Pages.free c.args.pages.now) (g.P.Pages.free c.give_page.new.self) c.if-branches-eq1.true refl (omega (arith, c.requires.height))
    c.give_page.ensures.pages c.give_page.ensures.given

pub returns-then-branches-eq1-clause-pages : goal.returns-then-branches-eq1-clause-pages
returns-then-branches-eq1-clause-pages g c =
    let given = c.give_page.ensures in
    given-shrinks c.args.pages.now c.give_page.new.self c.args.root.page given.given given.told given.map given.open given.calm
