use Rattle.std.proofs.Common.{ap}
use Rattle.std.specs.Map.{keys_of}
use Rattle.page_store.specs.PageStore.{PagesView, has}
use Rattle.page_cache.proofs.Caching.{quiet_cache}
use Rattle.page_cache.proofs.cached_pages.CachedPagesPages.take_page.Goals as goal

pub invariant_of-self : goal.invariant_of-self
invariant_of-self g c =
    quiet_cache g.D.Disk.is_known g.D.Disk.image c.self.inside.store c.take_page.new.self c.self.inside.cache (ap has c.take_page.ensures.changed)
    (ap (λ (v : PagesView g.row.D.Denot). keys_of v.staged) c.take_page.ensures.changed)
    (ap (λ (v : PagesView g.row.D.Denot). g.D.Disk.is_known v.disk) c.take_page.ensures.changed)
    (λ known. ap (λ (v : PagesView g.row.D.Denot). g.D.Disk.image v.disk) c.take_page.ensures.changed) c.self.invariant
