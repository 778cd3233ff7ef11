use Rattle.std.proofs.Common.{◌≡◌, ◌∙◌, subst}
use Rattle.std.specs.Map.{keys_of}
use Rattle.page_laws.specs.Pages.{is_among}
use Rattle.redo_journal.specs.Journal.{staged_of}
use Rattle.page_store.specs.PageStore.{PagesView}
use Rattle.page_store.proofs.Staging.{staged_found}
use Rattle.page_store.proofs.store.PageStore.is_put.Goals as goal

pub returns-then-self : goal.returns-then-self
returns-then-self g c =
    subst (λ (v : PagesView g.row.D.Denot). c.is_some.result ≡ is_among c.args.n (keys_of v.staged)) c.self.view_is
    (c.is_some.ensures ∙ staged_found c.args.n (staged_of c.self.inside.journal) c.staged_page.result c.staged_page.ensures.page)
