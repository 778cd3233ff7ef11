use Rattle.std.proofs.Common.{subst}
use Rattle.page_laws.specs.Pages.{AreFree}
use Rattle.page_laws.specs.FreeLaws.{last_first}
use Rattle.tree_bench.specs.Untold.{Held, has}
use Rattle.tree_bench.proofs.untold.UntoldPages.take_page.Goals as goal

pub returns-clause-taken : goal.returns-clause-taken
returns-clause-taken c = rw (← c.self.view_is, c.take.ensures.taken) (last_first c.take.new.self.numbers c.take.result)

pub returns-clause-free : goal.returns-clause-free
returns-clause-free c = (subst (λ (p : Held). AreFree (has p) p.pool.numbers) c.self.view_is c.take.ensures.free.0, c.take.ensures.free.1)
