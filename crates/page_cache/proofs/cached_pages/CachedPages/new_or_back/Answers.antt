use Rattle.std.proofs.Common.{[], sym, ap, subst, ◌∙◌}
use Rattle.lru.specs.LruCache.{lru_cache}
use Rattle.page_cache.specs.Cached.{IsCache}
use Rattle.page_cache.proofs.Caching.{empty_cache}
use Rattle.page_cache.proofs.cached_pages.CachedPages.new_or_back.Goals as goal

pub invariant_of-result : goal.invariant_of-result
invariant_of-result g c =
    subst (IsCache g.D.Disk.is_known g.D.Disk.image c.args.store) (sym (c.in-Ok.ensures ∙ ap (lru_cache []) c.in-Some.ensures))
    (empty_cache g.D.Disk.is_known g.D.Disk.image c.args.store c.args.room c.requires.room.0)
