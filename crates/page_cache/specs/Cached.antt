-- Pages with a cache before them, as contracts see them.
use Rattle.std.specs.Prelude.{◌≡◌, ℕ, ◌<◌, ◌≤◌, ◌==◌, Bool, false, IsTrue, List, [], length, Contains}
use Rattle.std.specs.List.{IsDistinct}
use Rattle.std.specs.Map.{keys_of}
use Rattle.page_laws.specs.Pages.{is_among}
use Rattle.redo_journal.specs.Pages.{page}
use Rattle.page_store.specs.PageStore.{PagesView, has}
use Rattle.lru.specs.LruCache.{LruCache}
use Rattle.page_cache.specs.Misses.{MostRecent}

-- the store's pages, those that are cached, the most recent first, and how many may be
pub record CachedView (D : Type 0) : Type 0 where
  pub pages : PagesView D
  pub recent : List ℕ
  pub room : ℕ

module _ {D : Type 0} where
  -- the list of a cache before a store, and the pages that were put in the store's open change
  abbrev pub recent_of : PagesView D → List ℕ → MostRecent
  recent_of store recent = record { pages = recent; is_put = λ n. is_among n (keys_of store.staged) }

  abbrev pub list_of : CachedView D → MostRecent
  list_of c = recent_of c.pages c.recent

  -- no page is cached yet
  abbrev pub uncached : PagesView D → ℕ → CachedView D
  uncached store room = record { pages = store; recent = []; room = room }

  -- a cached page is one of the store's, wasn't put in the open change, and is as the disk has it
  pub record IsCachedPage (is_known : D → Bool) (image : D → List ℕ) (store : PagesView D) (n : ℕ) (bytes : List ℕ) : Type 0 where
    pub there : IsTrue (has store n)
    pub unput : is_among n (keys_of store.staged) ≡ false
    pub bytes_are : IsTrue (is_known store.disk) → bytes ≡ page (image store.disk) n

  -- no page is cached twice, no more are than may be, and each is as the store has it
  pub record IsCache (is_known : D → Bool) (image : D → List ℕ) (store : PagesView D) (cache : LruCache ℕ (List ℕ)) : Type 0 where
    pub some : 0 < cache.cap
    pub fits : length cache.entries ≤ cache.cap
    pub distinct : IsDistinct (λ a b. a == b) (keys_of cache.entries)
    pub each : (n : ℕ) (bytes : List ℕ) → Contains cache.entries (n, bytes) → IsCachedPage is_known image store n bytes
