use Rattle.std.proofs.Common.{subst}
use Rattle.page_laws.specs.Pages.{AreFree}
use Rattle.page_laws.specs.FreeLaws.{last_first}
use Rattle.page_store.specs.PageStore.{PagesView, in_pool}
use Rattle.page_store.proofs.store.PageStorePages.take_page.Goals as goal

pub returns-clause-taken : goal.returns-clause-taken
returns-clause-taken g c = rw (← c.self.view_is, c.take.ensures.taken) (last_first c.take.new.self.numbers c.take.result)

pub returns-clause-free : goal.returns-clause-free
returns-clause-free g c = (
  subst (λ (v : PagesView g.row.D.Denot). AreFree (in_pool v) v.free) c.self.view_is c.take.ensures.free.0,
  c.take.ensures.free.1,
)
