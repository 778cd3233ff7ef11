use Rattle.std.proofs.Common.{subst}
use Rattle.page_store.proofs.Changing.{CommitSays}
use Rattle.page_cache.specs.Cached.{CachedView}
use Rattle.page_cache.proofs.Caching.{ended_cache, ended_staged}
use Rattle.page_cache.proofs.cached_pages.CachedPages.commit.Goals as goal

pub invariant_of-self : goal.invariant_of-self
invariant_of-self g c =
    ended_cache g.D.Disk.is_known g.D.Disk.image c.self.inside.store c.commit.new.self c.self.inside.cache c.commit.ensures.map.0
    (ended_staged c.commit.result c.self.inside.store c.commit.new.self c.commit.ensures.ends) c.commit.ensures.told.0
    (λ n at free known. c.commit.ensures.others known n at free) c.self.invariant

pub returns-clause-any_moment : goal.returns-clause-any_moment
returns-clause-any_moment g c = let K = g.D.Disk in
    subst (λ (v : CachedView g.row.D.Denot). CommitSays K.is_known K.knows_crashes K.image K.crash_states K.moment K.crash_states_since
    v.pages.disk v.pages.total v.pages.staged c.commit.new.self.disk) c.self.view_is c.commit.ensures.any_moment
