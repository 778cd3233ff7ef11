use Rattle.std.proofs.Common.{ap}
use Rattle.page_store.specs.PageStore.{PagesView, has}
use Rattle.redo_journal.specs.Pages.{page}
use Rattle.page_cache.proofs.Caching.{ended_cache}
use Rattle.page_cache.proofs.cached_pages.CachedPages.abandon.Goals as goal

pub invariant_of-self : goal.invariant_of-self
invariant_of-self g c =
    ended_cache g.D.Disk.is_known g.D.Disk.image c.self.inside.store c.abandon.new.self c.self.inside.cache (ap has c.abandon.ensures.abandoned)
    (ap (λ (v : PagesView g.row.D.Denot). v.staged) c.abandon.ensures.abandoned)
    (ap (λ (v : PagesView g.row.D.Denot). g.D.Disk.is_known v.disk) c.abandon.ensures.abandoned)
    (λ n at free known. ap (λ (v : PagesView g.row.D.Denot). page (g.D.Disk.image v.disk) n) c.abandon.ensures.abandoned) c.self.invariant
