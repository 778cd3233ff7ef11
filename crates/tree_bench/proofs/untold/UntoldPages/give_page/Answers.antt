use Rattle.page_laws.specs.FreeLaws.{last_first}
use Rattle.tree_bench.proofs.untold.UntoldPages.give_page.Goals as goal

pub returns-clause-given : goal.returns-clause-given
returns-clause-given c = rw (c.give.ensures.given, ← c.self.view_is) (last_first c.self.inside.free.numbers c.args.n)
