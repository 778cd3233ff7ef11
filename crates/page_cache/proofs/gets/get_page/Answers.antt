use Rattle.std.proofs.Common.{rules, ◌≡◌, ℕ, ◌==◌, Bool, true, false, IsTrue, List, ◌∷◌, take, refl, sym, ap, subst, ◌∙◌}
use Rattle.std.specs.Prelude.{nat_eq, Some}
use Rattle.std.specs.Map.{keys_of, lookup}
use Rattle.std.proofs.lemmas.Bool.{false≢true}
use Rattle.lru.specs.LruCache.{LruCache}
use Rattle.page_laws.specs.Pages.{is_among, count_after}
use Rattle.redo_journal.specs.Pages.{page}
use Rattle.page_store.specs.PageStore.{PagesView, has}
use Rattle.page_cache.specs.Misses.{without, after_get, misses_of}
use Rattle.page_cache.specs.Cached.{recent_of, IsCache, IsCachedPage}
use Rattle.page_cache.proofs.Keys.{found, unmoved, moved, put}
use Rattle.page_cache.proofs.Caching.{unstaged, quiet_cache, hit_is, moved_cache, put_cache}
use Rattle.page_cache.proofs.Missing.{same_recent, stays_out, goes_first, hit_misses, is_missed, miss_reads}
use Rattle.page_cache.proofs.gets.get_page.Goals as goal

pub returns-then-give_cached-clause-cache : goal.returns-then-give_cached-clause-cache
returns-then-give_cached-clause-cache g c =
    let store = c.args.store.now in
    let cache = c.args.cache.now in
    let there : is_among c.args.n (keys_of cache.entries) ≡ true =
    sym (found c.args.n cache.entries) ∙ sym c.give_cached.ensures.found ∙ c.if-give_cached.true in
    let is = hit_is g.D.Disk.is_known g.D.Disk.image store cache c.requires.cache c.args.n c.give_cached.new.into
    (c.give_cached.ensures.data c.if-give_cached.true) in
    subst (IsCache g.D.Disk.is_known g.D.Disk.image c.count_fetch.new.self) (sym c.give_cached.ensures.first)
    (quiet_cache g.D.Disk.is_known g.D.Disk.image store c.count_fetch.new.self _ (ap has c.count_fetch.ensures.counted)
    (ap (λ (v : PagesView g.row.D.Denot). keys_of v.staged) c.count_fetch.ensures.counted)
    (ap (λ (v : PagesView g.row.D.Denot). g.D.Disk.is_known v.disk) c.count_fetch.ensures.counted)
    (λ known. ap (λ (v : PagesView g.row.D.Denot). g.D.Disk.image v.disk) c.count_fetch.ensures.counted)
    (moved_cache g.D.Disk.is_known g.D.Disk.image store cache c.requires.cache c.args.n there))

pub returns-then-give_cached-clause-data : goal.returns-then-give_cached-clause-data
returns-then-give_cached-clause-data g c = λ known.
    let store = c.args.store.now in
    let cache = c.args.cache.now in
    let there : is_among c.args.n (keys_of cache.entries) ≡ true =
    sym (found c.args.n cache.entries) ∙ sym c.give_cached.ensures.found ∙ c.if-give_cached.true in
    let is = hit_is g.D.Disk.is_known g.D.Disk.image store cache c.requires.cache c.args.n c.give_cached.new.into
    (c.give_cached.ensures.data c.if-give_cached.true) in
    is.bytes_are known ∙ sym (unstaged c.args.n store.staged (page (g.D.Disk.image store.disk)) is.unput)

pub returns-then-give_cached-clause-list : goal.returns-then-give_cached-clause-list
returns-then-give_cached-clause-list g c =
    let store = c.args.store.now in
    let cache = c.args.cache.now in
    let there : is_among c.args.n (keys_of cache.entries) ≡ true =
    sym (found c.args.n cache.entries) ∙ sym c.give_cached.ensures.found ∙ c.if-give_cached.true in
    let is = hit_is g.D.Disk.is_known g.D.Disk.image store cache c.requires.cache c.args.n c.give_cached.new.into
    (c.give_cached.ensures.data c.if-give_cached.true) in
    same_recent store c.count_fetch.new.self (take cache.cap (c.args.n ∷ without c.args.n (keys_of cache.entries)))
    (keys_of c.give_cached.new.cache.entries)
    (ap (λ (l : LruCache ℕ (List ℕ)). keys_of l.entries) c.give_cached.ensures.first
    ∙ moved c.args.n cache c.requires.cache.some c.requires.cache.fits c.requires.cache.distinct there)
    (ap (λ (v : PagesView g.row.D.Denot). keys_of v.staged) c.count_fetch.ensures.counted)
    ∙ sym (goes_first cache.cap c.args.n (recent_of store (keys_of cache.entries)) is.unput)

pub returns-then-give_cached-clause-reads : goal.returns-then-give_cached-clause-reads
returns-then-give_cached-clause-reads g c = λ known.
    let store = c.args.store.now in
    let cache = c.args.cache.now in
    let there : is_among c.args.n (keys_of cache.entries) ≡ true =
    sym (found c.args.n cache.entries) ∙ sym c.give_cached.ensures.found ∙ c.if-give_cached.true in
    let is = hit_is g.D.Disk.is_known g.D.Disk.image store cache c.requires.cache c.args.n c.give_cached.new.into
    (c.give_cached.ensures.data c.if-give_cached.true) in
    ap (λ (v : PagesView g.row.D.Denot). g.D.Disk.reads v.disk) c.count_fetch.ensures.counted
    ∙ ap (count_after (g.D.Disk.reads store.disk)) (sym (hit_misses c.args.n (recent_of store (keys_of cache.entries)) there))

pub returns-in_err-get-clause-cache : goal.returns-in_err-get-clause-cache
returns-in_err-get-clause-cache g c =
    let store = c.args.store.now in
    let cache = c.args.cache.now in
    let missing = sym c.give_cached.ensures.found ∙ c.if-give_cached.false in
    let none : is_among c.args.n (keys_of cache.entries) ≡ false = sym (found c.args.n cache.entries) ∙ missing in
    let same : c.give_cached.new.cache ≡ cache = c.give_cached.ensures.first ∙ unmoved c.args.n cache missing in
    let same_keys : keys_of c.give_cached.new.cache.entries ≡ keys_of cache.entries = ap (λ (l : LruCache ℕ (List ℕ)). keys_of l.entries) same in
    let kept : IsCache g.D.Disk.is_known g.D.Disk.image c.get.new.self c.give_cached.new.cache =
    subst (IsCache g.D.Disk.is_known g.D.Disk.image c.get.new.self) (sym same)
    (quiet_cache g.D.Disk.is_known g.D.Disk.image store c.get.new.self cache c.get.ensures.map.0 c.get.ensures.open.1 c.get.ensures.told
    (g.met.D.Disk.quiet_is store.disk c.get.new.self.disk c.get.ensures.calm.is_quiet).image_is c.requires.cache) in
    kept

pub returns-in_err-get-clause-list : goal.returns-in_err-get-clause-list
returns-in_err-get-clause-list g c =
    let store = c.args.store.now in
    let cache = c.args.cache.now in
    let missing = sym c.give_cached.ensures.found ∙ c.if-give_cached.false in
    let none : is_among c.args.n (keys_of cache.entries) ≡ false = sym (found c.args.n cache.entries) ∙ missing in
    let same : c.give_cached.new.cache ≡ cache = c.give_cached.ensures.first ∙ unmoved c.args.n cache missing in
    let same_keys : keys_of c.give_cached.new.cache.entries ≡ keys_of cache.entries = ap (λ (l : LruCache ℕ (List ℕ)). keys_of l.entries) same in
    let stays : recent_of c.get.new.self (keys_of c.give_cached.new.cache.entries) ≡ recent_of store (keys_of cache.entries) =
    same_recent store c.get.new.self (keys_of cache.entries) (keys_of c.give_cached.new.cache.entries) same_keys c.get.ensures.open.1 in
    search (rules, stays)

pub returns-in_err-get-clause-reads : goal.returns-in_err-get-clause-reads
returns-in_err-get-clause-reads g c = λ known.
    let store = c.args.store.now in
    let cache = c.args.cache.now in
    let missing = sym c.give_cached.ensures.found ∙ c.if-give_cached.false in
    let none : is_among c.args.n (keys_of cache.entries) ≡ false = sym (found c.args.n cache.entries) ∙ missing in
    let same : c.give_cached.new.cache ≡ cache = c.give_cached.ensures.first ∙ unmoved c.args.n cache missing in
    let same_keys : keys_of c.give_cached.new.cache.entries ≡ keys_of cache.entries = ap (λ (l : LruCache ℕ (List ℕ)). keys_of l.entries) same in
    c.get.ensures.reads known ∙ miss_reads c.args.n (g.D.Disk.reads store.disk) store (keys_of cache.entries) none

pub returns-in_err-get-clause-hit : goal.returns-in_err-get-clause-hit
returns-in_err-get-clause-hit g c = λ there.
    let store = c.args.store.now in
    let cache = c.args.cache.now in
    let missing = sym c.give_cached.ensures.found ∙ c.if-give_cached.false in
    let none : is_among c.args.n (keys_of cache.entries) ≡ false = sym (found c.args.n cache.entries) ∙ missing in
    let same : c.give_cached.new.cache ≡ cache = c.give_cached.ensures.first ∙ unmoved c.args.n cache missing in
    let same_keys : keys_of c.give_cached.new.cache.entries ≡ keys_of cache.entries = ap (λ (l : LruCache ℕ (List ℕ)). keys_of l.entries) same in
    absurd (false≢true (sym none ∙ there))

pub returns-then-was_put-clause-cache : goal.returns-then-was_put-clause-cache
returns-then-was_put-clause-cache g c =
    let store = c.args.store.now in
    let cache = c.args.cache.now in
    let missing = sym c.give_cached.ensures.found ∙ c.if-give_cached.false in
    let none : is_among c.args.n (keys_of cache.entries) ≡ false = sym (found c.args.n cache.entries) ∙ missing in
    let same : c.give_cached.new.cache ≡ cache = c.give_cached.ensures.first ∙ unmoved c.args.n cache missing in
    let same_keys : keys_of c.give_cached.new.cache.entries ≡ keys_of cache.entries = ap (λ (l : LruCache ℕ (List ℕ)). keys_of l.entries) same in
    let kept : IsCache g.D.Disk.is_known g.D.Disk.image c.get.new.self c.give_cached.new.cache =
    subst (IsCache g.D.Disk.is_known g.D.Disk.image c.get.new.self) (sym same)
    (quiet_cache g.D.Disk.is_known g.D.Disk.image store c.get.new.self cache c.get.ensures.map.0 c.get.ensures.open.1 c.get.ensures.told
    (g.met.D.Disk.quiet_is store.disk c.get.new.self.disk c.get.ensures.calm.is_quiet).image_is c.requires.cache) in
    kept

pub returns-then-was_put-clause-list : goal.returns-then-was_put-clause-list
returns-then-was_put-clause-list g c =
    let store = c.args.store.now in
    let cache = c.args.cache.now in
    let missing = sym c.give_cached.ensures.found ∙ c.if-give_cached.false in
    let none : is_among c.args.n (keys_of cache.entries) ≡ false = sym (found c.args.n cache.entries) ∙ missing in
    let same : c.give_cached.new.cache ≡ cache = c.give_cached.ensures.first ∙ unmoved c.args.n cache missing in
    let same_keys : keys_of c.give_cached.new.cache.entries ≡ keys_of cache.entries = ap (λ (l : LruCache ℕ (List ℕ)). keys_of l.entries) same in
    let stays : recent_of c.get.new.self (keys_of c.give_cached.new.cache.entries) ≡ recent_of store (keys_of cache.entries) =
    same_recent store c.get.new.self (keys_of cache.entries) (keys_of c.give_cached.new.cache.entries) same_keys c.get.ensures.open.1 in
    stays ∙ sym (stays_out cache.cap c.args.n (recent_of store (keys_of cache.entries)) (sym c.is_put-was_put.ensures ∙ c.if-was_put.true))

pub returns-then-was_put-clause-reads : goal.returns-then-was_put-clause-reads
returns-then-was_put-clause-reads g c = λ known.
    let store = c.args.store.now in
    let cache = c.args.cache.now in
    let missing = sym c.give_cached.ensures.found ∙ c.if-give_cached.false in
    let none : is_among c.args.n (keys_of cache.entries) ≡ false = sym (found c.args.n cache.entries) ∙ missing in
    let same : c.give_cached.new.cache ≡ cache = c.give_cached.ensures.first ∙ unmoved c.args.n cache missing in
    let same_keys : keys_of c.give_cached.new.cache.entries ≡ keys_of cache.entries = ap (λ (l : LruCache ℕ (List ℕ)). keys_of l.entries) same in
    c.get.ensures.reads known ∙ miss_reads c.args.n (g.D.Disk.reads store.disk) store (keys_of cache.entries) none

pub returns-then-was_put-clause-hit : goal.returns-then-was_put-clause-hit
returns-then-was_put-clause-hit g c = λ there.
    let store = c.args.store.now in
    let cache = c.args.cache.now in
    let missing = sym c.give_cached.ensures.found ∙ c.if-give_cached.false in
    let none : is_among c.args.n (keys_of cache.entries) ≡ false = sym (found c.args.n cache.entries) ∙ missing in
    let same : c.give_cached.new.cache ≡ cache = c.give_cached.ensures.first ∙ unmoved c.args.n cache missing in
    let same_keys : keys_of c.give_cached.new.cache.entries ≡ keys_of cache.entries = ap (λ (l : LruCache ℕ (List ℕ)). keys_of l.entries) same in
    absurd (false≢true (sym none ∙ there))

pub returns-in_err-keep_cached-clause-cache : goal.returns-in_err-keep_cached-clause-cache
returns-in_err-keep_cached-clause-cache g c =
    let store = c.args.store.now in
    let cache = c.args.cache.now in
    let missing = sym c.give_cached.ensures.found ∙ c.if-give_cached.false in
    let none : is_among c.args.n (keys_of cache.entries) ≡ false = sym (found c.args.n cache.entries) ∙ missing in
    let same : c.give_cached.new.cache ≡ cache = c.give_cached.ensures.first ∙ unmoved c.args.n cache missing in
    let same_keys : keys_of c.give_cached.new.cache.entries ≡ keys_of cache.entries = ap (λ (l : LruCache ℕ (List ℕ)). keys_of l.entries) same in
    let kept : IsCache g.D.Disk.is_known g.D.Disk.image c.get.new.self c.give_cached.new.cache =
    subst (IsCache g.D.Disk.is_known g.D.Disk.image c.get.new.self) (sym same)
    (quiet_cache g.D.Disk.is_known g.D.Disk.image store c.get.new.self cache c.get.ensures.map.0 c.get.ensures.open.1 c.get.ensures.told
    (g.met.D.Disk.quiet_is store.disk c.get.new.self.disk c.get.ensures.calm.is_quiet).image_is c.requires.cache) in
    let left : c.keep_cached.new.cache ≡ c.give_cached.new.cache = c.in_err-keep_cached.ensures.err in
    subst (IsCache g.D.Disk.is_known g.D.Disk.image c.get.new.self) (sym left) kept

pub returns-in_err-keep_cached-clause-list : goal.returns-in_err-keep_cached-clause-list
returns-in_err-keep_cached-clause-list g c =
    let store = c.args.store.now in
    let cache = c.args.cache.now in
    let missing = sym c.give_cached.ensures.found ∙ c.if-give_cached.false in
    let none : is_among c.args.n (keys_of cache.entries) ≡ false = sym (found c.args.n cache.entries) ∙ missing in
    let same : c.give_cached.new.cache ≡ cache = c.give_cached.ensures.first ∙ unmoved c.args.n cache missing in
    let same_keys : keys_of c.give_cached.new.cache.entries ≡ keys_of cache.entries = ap (λ (l : LruCache ℕ (List ℕ)). keys_of l.entries) same in
    let stays : recent_of c.get.new.self (keys_of c.give_cached.new.cache.entries) ≡ recent_of store (keys_of cache.entries) =
    same_recent store c.get.new.self (keys_of cache.entries) (keys_of c.give_cached.new.cache.entries) same_keys c.get.ensures.open.1 in
    let left : c.keep_cached.new.cache ≡ c.give_cached.new.cache = c.in_err-keep_cached.ensures.err in
    let so : recent_of c.get.new.self (keys_of c.keep_cached.new.cache.entries) ≡ recent_of store (keys_of cache.entries) =
    ap (λ (l : LruCache ℕ (List ℕ)). recent_of c.get.new.self (keys_of l.entries)) left ∙ stays in
    search (rules, so)

pub returns-in_err-keep_cached-clause-reads : goal.returns-in_err-keep_cached-clause-reads
returns-in_err-keep_cached-clause-reads g c = λ known.
    let store = c.args.store.now in
    let cache = c.args.cache.now in
    let missing = sym c.give_cached.ensures.found ∙ c.if-give_cached.false in
    let none : is_among c.args.n (keys_of cache.entries) ≡ false = sym (found c.args.n cache.entries) ∙ missing in
    let same : c.give_cached.new.cache ≡ cache = c.give_cached.ensures.first ∙ unmoved c.args.n cache missing in
    let same_keys : keys_of c.give_cached.new.cache.entries ≡ keys_of cache.entries = ap (λ (l : LruCache ℕ (List ℕ)). keys_of l.entries) same in
    c.get.ensures.reads known ∙ miss_reads c.args.n (g.D.Disk.reads store.disk) store (keys_of cache.entries) none

pub returns-in_err-keep_cached-clause-hit : goal.returns-in_err-keep_cached-clause-hit
returns-in_err-keep_cached-clause-hit g c = λ there.
    let store = c.args.store.now in
    let cache = c.args.cache.now in
    let missing = sym c.give_cached.ensures.found ∙ c.if-give_cached.false in
    let none : is_among c.args.n (keys_of cache.entries) ≡ false = sym (found c.args.n cache.entries) ∙ missing in
    let same : c.give_cached.new.cache ≡ cache = c.give_cached.ensures.first ∙ unmoved c.args.n cache missing in
    let same_keys : keys_of c.give_cached.new.cache.entries ≡ keys_of cache.entries = ap (λ (l : LruCache ℕ (List ℕ)). keys_of l.entries) same in
    absurd (false≢true (sym none ∙ there))

pub returns-in_err-keep_cached-clause-memory : goal.returns-in_err-keep_cached-clause-memory
returns-in_err-keep_cached-clause-memory g c = λ hit.
    let store = c.args.store.now in
    let cache = c.args.cache.now in
    let missing = sym c.give_cached.ensures.found ∙ c.if-give_cached.false in
    let none : is_among c.args.n (keys_of cache.entries) ≡ false = sym (found c.args.n cache.entries) ∙ missing in
    let same : c.give_cached.new.cache ≡ cache = c.give_cached.ensures.first ∙ unmoved c.args.n cache missing in
    let same_keys : keys_of c.give_cached.new.cache.entries ≡ keys_of cache.entries = ap (λ (l : LruCache ℕ (List ℕ)). keys_of l.entries) same in
    let unput : is_among c.args.n (keys_of store.staged) ≡ false = sym c.is_put-was_put.ensures ∙ c.if-was_put.false in
    absurd (false≢true (sym hit ∙ is_missed c.args.n (recent_of store (keys_of cache.entries)) unput none))

pub returns-clause-cache : goal.returns-clause-cache
returns-clause-cache g c =
    let store = c.args.store.now in
    let cache = c.args.cache.now in
    let missing = sym c.give_cached.ensures.found ∙ c.if-give_cached.false in
    let none : is_among c.args.n (keys_of cache.entries) ≡ false = sym (found c.args.n cache.entries) ∙ missing in
    let same : c.give_cached.new.cache ≡ cache = c.give_cached.ensures.first ∙ unmoved c.args.n cache missing in
    let same_keys : keys_of c.give_cached.new.cache.entries ≡ keys_of cache.entries = ap (λ (l : LruCache ℕ (List ℕ)). keys_of l.entries) same in
    let kept : IsCache g.D.Disk.is_known g.D.Disk.image c.get.new.self c.give_cached.new.cache =
    subst (IsCache g.D.Disk.is_known g.D.Disk.image c.get.new.self) (sym same)
    (quiet_cache g.D.Disk.is_known g.D.Disk.image store c.get.new.self cache c.get.ensures.map.0 c.get.ensures.open.1 c.get.ensures.told
    (g.met.D.Disk.quiet_is store.disk c.get.new.self.disk c.get.ensures.calm.is_quiet).image_is c.requires.cache) in
    let unput : is_among c.args.n (keys_of store.staged) ≡ false = sym c.is_put-was_put.ensures ∙ c.if-was_put.false in
    let still_none : is_among c.args.n (keys_of c.give_cached.new.cache.entries) ≡ false = ap (is_among c.args.n) same_keys ∙ none in
    let image_same = (g.met.D.Disk.quiet_is store.disk c.get.new.self.disk c.get.ensures.calm.is_quiet).image_is in
    let new : IsCachedPage g.D.Disk.is_known g.D.Disk.image c.get.new.self c.args.n c.get.new.into = record {
      there = subst (λ (f : ℕ → Bool). IsTrue (f c.args.n)) (sym c.get.ensures.map.0) c.requires.there;
      unput = ap (is_among c.args.n) c.get.ensures.open.1 ∙ unput;
      bytes_are = λ told. let known = subst IsTrue c.get.ensures.told told in
          c.in_ok-get.ensures.data known ∙ unstaged c.args.n store.staged (page (g.D.Disk.image store.disk)) unput
          ∙ ap (λ (i : List ℕ). page i c.args.n) (sym (image_same known));
    } in
    subst (IsCache g.D.Disk.is_known g.D.Disk.image c.get.new.self) (sym c.in_ok-keep_cached.ensures.first)
    (put_cache g.D.Disk.is_known g.D.Disk.image c.get.new.self c.give_cached.new.cache kept c.args.n c.get.new.into new still_none)

pub returns-clause-list : goal.returns-clause-list
returns-clause-list g c =
    let store = c.args.store.now in
    let cache = c.args.cache.now in
    let missing = sym c.give_cached.ensures.found ∙ c.if-give_cached.false in
    let none : is_among c.args.n (keys_of cache.entries) ≡ false = sym (found c.args.n cache.entries) ∙ missing in
    let same : c.give_cached.new.cache ≡ cache = c.give_cached.ensures.first ∙ unmoved c.args.n cache missing in
    let same_keys : keys_of c.give_cached.new.cache.entries ≡ keys_of cache.entries = ap (λ (l : LruCache ℕ (List ℕ)). keys_of l.entries) same in
    let kept : IsCache g.D.Disk.is_known g.D.Disk.image c.get.new.self c.give_cached.new.cache =
    subst (IsCache g.D.Disk.is_known g.D.Disk.image c.get.new.self) (sym same)
    (quiet_cache g.D.Disk.is_known g.D.Disk.image store c.get.new.self cache c.get.ensures.map.0 c.get.ensures.open.1 c.get.ensures.told
    (g.met.D.Disk.quiet_is store.disk c.get.new.self.disk c.get.ensures.calm.is_quiet).image_is c.requires.cache) in
    let unput : is_among c.args.n (keys_of store.staged) ≡ false = sym c.is_put-was_put.ensures ∙ c.if-was_put.false in
    let still_none : is_among c.args.n (keys_of c.give_cached.new.cache.entries) ≡ false = ap (is_among c.args.n) same_keys ∙ none in
    same_recent store c.get.new.self (take cache.cap (c.args.n ∷ without c.args.n (keys_of cache.entries))) (keys_of c.keep_cached.new.cache.entries)
    (ap (λ (l : LruCache ℕ (List ℕ)). keys_of l.entries) c.in_ok-keep_cached.ensures.first
    ∙ put c.args.n c.give_cached.new.cache kept.some kept.fits kept.distinct c.get.new.into still_none
    ∙ ap (λ (l : LruCache ℕ (List ℕ)). take l.cap (c.args.n ∷ without c.args.n (keys_of l.entries))) same)
    c.get.ensures.open.1
    ∙ sym (goes_first cache.cap c.args.n (recent_of store (keys_of cache.entries)) unput)

pub returns-clause-reads : goal.returns-clause-reads
returns-clause-reads g c = λ known.
    let store = c.args.store.now in
    let cache = c.args.cache.now in
    let missing = sym c.give_cached.ensures.found ∙ c.if-give_cached.false in
    let none : is_among c.args.n (keys_of cache.entries) ≡ false = sym (found c.args.n cache.entries) ∙ missing in
    let same : c.give_cached.new.cache ≡ cache = c.give_cached.ensures.first ∙ unmoved c.args.n cache missing in
    let same_keys : keys_of c.give_cached.new.cache.entries ≡ keys_of cache.entries = ap (λ (l : LruCache ℕ (List ℕ)). keys_of l.entries) same in
    c.get.ensures.reads known ∙ miss_reads c.args.n (g.D.Disk.reads store.disk) store (keys_of cache.entries) none

pub returns-clause-hit : goal.returns-clause-hit
returns-clause-hit g c = λ there.
    let store = c.args.store.now in
    let cache = c.args.cache.now in
    let missing = sym c.give_cached.ensures.found ∙ c.if-give_cached.false in
    let none : is_among c.args.n (keys_of cache.entries) ≡ false = sym (found c.args.n cache.entries) ∙ missing in
    let same : c.give_cached.new.cache ≡ cache = c.give_cached.ensures.first ∙ unmoved c.args.n cache missing in
    let same_keys : keys_of c.give_cached.new.cache.entries ≡ keys_of cache.entries = ap (λ (l : LruCache ℕ (List ℕ)). keys_of l.entries) same in
    absurd (false≢true (sym none ∙ there))
