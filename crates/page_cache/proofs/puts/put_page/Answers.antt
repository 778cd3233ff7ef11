use Rattle.std.proofs.Common.{◌≡◌, ℕ, ◌==◌, ◌||◌, List, Bool, sym, ap, subst, ◌∙◌}
use Rattle.std.proofs.Math.Path.{fun_ext}
use Rattle.std.specs.Map.{keys_of}
use Rattle.lru.specs.LruCache.{LruCache}
use Rattle.page_laws.specs.Pages.{is_among}
use Rattle.page_cache.specs.Cached.{recent_of, IsCache}
use Rattle.page_cache.specs.Misses.{without, MostRecent}
use Rattle.page_cache.proofs.Keys.{removed}
use Rattle.page_cache.proofs.Caching.{dropped_cache, other_page}
use Rattle.page_cache.proofs.puts.put_page.Goals as goal

pub returns-clause-cache : goal.returns-clause-cache
returns-clause-cache g c =
    subst (IsCache g.D.Disk.is_known g.D.Disk.image c.put.new.self) (sym c.drop_cached.ensures)
    (dropped_cache g.D.Disk.is_known g.D.Disk.image c.args.store.now c.args.cache.now c.requires.cache c.put.new.self c.args.n
    (other_page g.D.Disk.is_known g.D.Disk.image c.args.store.now c.put.new.self c.args.n c.put.ensures.changed c.put.ensures.joins))

pub returns-clause-list : goal.returns-clause-list
returns-clause-list g c =
    ap (λ (l : LruCache ℕ (List ℕ)). recent_of c.put.new.self (keys_of l.entries)) c.drop_cached.ensures
    ∙ ap (λ (ks : List ℕ). recent_of c.put.new.self ks) (removed c.args.n c.args.cache.now.entries c.requires.cache.distinct)
    ∙ ap (λ (put : ℕ → Bool). record { pages = without c.args.n (keys_of c.args.cache.now.entries); is_put = put }) (fun_ext c.put.ensures.joins)
