-- What calls on a cache and its store leave of each other.
use Rattle.std.proofs.Common.{◌≡◌, inl, inr, ⊎_elim, ℕ, ◌-◌, ◌<◌, ◌≤◌, ◌==◌, ◌||◌, not, ◌&&◌, Bool, true, false, IsTrue, List, [], ◌∷◌, length, take, Option, Some, None, Result, Ok, Err, Contains, refl, sym, ap, subst, ◌∙◌, arith}
use Rattle.std.specs.Prelude.{nat_eq, is_some}
use Rattle.std.specs.List.{IsDistinct}
use Rattle.std.specs.Map.{keys_of, lookup, remove_entry}
use Rattle.std.proofs.lemmas.Bool.{false≢true}
use Rattle.std.proofs.lemmas.Bool.Decides.{nat_tests}
use Rattle.std.proofs.lemmas.Map.Entries.{length-keys_of}
use Rattle.std.proofs.lemmas.Map.Made.{is_some-lookup}
use Rattle.lru.specs.LruCache.{LruCache, lru_cache, promoted, put_entries}
use Rattle.lru.proofs.Splits.{Contains-cons, Contains-nil}
use Rattle.lru.proofs.CallerLemmas.{Contains-lookup, Contains-promoted, Contains-put_entries, Contains-remove_entry}
use Rattle.page_laws.specs.Pages.{is_among}
use Rattle.redo_journal.specs.Pages.{page}
use Rattle.redo_journal.specs.Redo.{overlay, page_or}
use Rattle.page_store.specs.PageStore.{PagesView, has, Ends}
use Rattle.page_cache.specs.Misses.{without}
use Rattle.page_cache.specs.Cached.{IsCache, IsCachedPage}
use Rattle.page_cache.proofs.Lists.{same_number, none_without, distinct_without, without_fits, after_distinct, after_fits}
use Rattle.page_cache.proofs.Keys.{found, removed, moved, put}

-- a page that isn't staged is the disk's
pub unstaged : (n : ℕ) (es : List (ℕ × List ℕ)) (pages : ℕ → List ℕ) → is_among n (keys_of es) ≡ false → overlay es pages n ≡ pages n
unstaged n es pages free = by (lookup (λ m. m == n) es) (is_some-lookup (λ m. m == n) es ∙ free)
  where
    by : (o : Option (List ℕ)) → is_some o ≡ false → page_or o (pages n) ≡ pages n
    by None none = refl
    by (Some p) none = absurd (false≢true (sym none))

-- the key of a cached page is among the keys
among_key : (es : List (ℕ × List ℕ)) (m : ℕ) (bytes : List ℕ) → Contains es (m, bytes) → is_among m (keys_of es) ≡ true
among_key [] m bytes at = absurd (Contains-nil (m, bytes) at)
among_key (e ∷ es) m bytes at = elim (Contains-cons e es (m, bytes) at) [
  | inl same ↦ first (e.0 == m) (is_among m (keys_of es)) (itself e.0 m (ap (λ (p : ℕ × List ℕ). p.0) same))
  | inr rest ↦ later (e.0 == m) (is_among m (keys_of es)) (among_key es m bytes rest)
]
  where
    itself : (k m : ℕ) → k ≡ m → (k == m) ≡ true
    itself k m same = grind (arith, nat_tests, same)

    first : (a b : Bool) → a ≡ true → (a || b) ≡ true
    first true b is = refl
    first false b is = absurd (false≢true is)

    later : (a b : Bool) → b ≡ true → (a || b) ≡ true
    later true b is = refl
    later false b is = is

-- a change that ended leaves nothing staged
pub ended_staged : {D E : Type 0} (result : Result Unit E) (old new : PagesView D) → Ends result old new → new.staged ≡ []
ended_staged {D} {E} (Ok _) old new ends = ap (λ (v : PagesView D). v.staged) ends
ended_staged {D} {E} (Err _) old new ends = ap (λ (v : PagesView D). v.staged) ends

module _ {D : Type 0} (is_known : D → Bool) (image : D → List ℕ) where
  -- another state of the store in which each cached page is as before
  pub stays : (old new : PagesView D) (c : LruCache ℕ (List ℕ)) → ((n : ℕ) (bytes : List ℕ) → IsCachedPage is_known image old n bytes
      → IsCachedPage is_known image new n bytes) → IsCache is_known image old c → IsCache is_known image new c
  stays old new c each is = record {
    some = is.some;
    fits = is.fits;
    distinct = is.distinct;
    each = λ n bytes there. each n bytes (is.each n bytes there);
  }

  -- as after calls that leave the pages and what is staged
  pub page_stays : (old new : PagesView D) → has new ≡ has old → keys_of new.staged ≡ keys_of old.staged → is_known new.disk ≡ is_known old.disk
      → ((n : ℕ) → IsTrue (has old n) → is_among n (keys_of old.staged) ≡ false → IsTrue (is_known old.disk) → page (image new.disk) n ≡ page (image old.disk) n)
      → (n : ℕ) (bytes : List ℕ) → IsCachedPage is_known image old n bytes → IsCachedPage is_known image new n bytes
  page_stays old new same_has same_staged told same n bytes is = record {
    there = subst (λ (f : ℕ → Bool). IsTrue (f n)) (sym same_has) is.there;
    unput = ap (λ ks. is_among n ks) same_staged ∙ is.unput;
    bytes_are = λ known. let before = subst IsTrue told known in is.bytes_are before ∙ sym (same n is.there is.unput before);
  }

  pub quiet_cache : (old new : PagesView D) (c : LruCache ℕ (List ℕ)) → has new ≡ has old → keys_of new.staged ≡ keys_of old.staged
      → is_known new.disk ≡ is_known old.disk → (IsTrue (is_known old.disk) → image new.disk ≡ image old.disk) → IsCache is_known image old c
      → IsCache is_known image new c
  quiet_cache old new c same_has same_staged told same is =
      stays old new c (page_stays old new same_has same_staged told (λ n at free known. ap (λ i. page i n) (same known))) is

  module _ (store : PagesView D) (c : LruCache ℕ (List ℕ)) (is : IsCache is_known image store c) where
    -- a page that is found is the store's
    pub hit_is : (n : ℕ) (bytes : List ℕ) → lookup (nat_eq n) c.entries ≡ Some bytes → IsCachedPage is_known image store n bytes
    hit_is n bytes at =
        let there = Contains-lookup (nat_eq n) c.entries bytes at in
        subst (λ (k : ℕ). IsCachedPage is_known image store k bytes) (sym (same_number n there.0 there.2)) (is.each there.0 bytes there.1)

    -- with a cached page in front
    pub moved_cache : (n : ℕ) → is_among n (keys_of c.entries) ≡ true → IsCache is_known image store (lru_cache (promoted (nat_eq n) c.entries) c.cap)
    moved_cache n there =
        let keys = moved n c is.some is.fits is.distinct there in
        let all = take c.cap (n ∷ without n (keys_of c.entries)) in record {
          some = is.some;
          fits = subst (λ m. m ≤ c.cap) (ap length (sym keys) ∙ length-keys_of (promoted (nat_eq n) c.entries)) (after_fits c.cap (n ∷ without n (keys_of c.entries)));
          distinct = subst (IsDistinct (λ a b. a == b)) (sym keys) (after_distinct n c.cap (keys_of c.entries) is.distinct);
          each = λ m bytes at. is.each m bytes (Contains-promoted (nat_eq n) c.entries (m, bytes) at);
        }

    -- with a new page in front
    pub put_cache : (n : ℕ) (bytes : List ℕ) → IsCachedPage is_known image store n bytes → is_among n (keys_of c.entries) ≡ false
        → IsCache is_known image store (lru_cache (put_entries nat_eq c n bytes) c.cap)
    put_cache n bytes new none =
        let keys = put n c is.some is.fits is.distinct bytes none in record {
          some = is.some;
          fits = subst (λ m. m ≤ c.cap) (ap length (sym keys) ∙ length-keys_of (put_entries nat_eq c n bytes)) (after_fits c.cap (n ∷ without n (keys_of c.entries)));
          distinct = subst (IsDistinct (λ a b. a == b)) (sym keys) (after_distinct n c.cap (keys_of c.entries) is.distinct);
          each = λ m more at. ⊎_elim (λ was. is.each m more was)
              (λ laid. subst (λ (b : List ℕ). IsCachedPage is_known image store m b) (sym laid.0)
              (subst (λ (k : ℕ). IsCachedPage is_known image store k bytes) (⊎_elim (λ same. sym same) (λ other. same_number n m other.2) laid.1) new))
              (Contains-put_entries nat_eq c n bytes (m, more) at);
        }

    -- without a page: it isn't among those that are left
    pub left_out : (n m : ℕ) (bytes : List ℕ) → Contains (remove_entry (nat_eq n) c.entries) (m, bytes) → m ≡ n → ⊥
    left_out n m bytes at same = false≢true
        (sym (none_without n (keys_of c.entries))
        ∙ ap (is_among n) (sym (removed n c.entries is.distinct))
        ∙ subst (λ (k : ℕ). is_among k (keys_of (remove_entry (nat_eq n) c.entries)) ≡ true) same (among_key (remove_entry (nat_eq n) c.entries) m bytes at))

    pub dropped_cache : (new : PagesView D) (n : ℕ) → ((m : ℕ) (bytes : List ℕ) → (m ≡ n → ⊥) → IsCachedPage is_known image store m bytes
        → IsCachedPage is_known image new m bytes) → IsCache is_known image new (lru_cache (remove_entry (nat_eq n) c.entries) c.cap)
    dropped_cache new n each =
        let keys = removed n c.entries is.distinct in record {
          some = is.some;
          fits = subst (λ m. m ≤ c.cap) (ap length (sym keys) ∙ length-keys_of (remove_entry (nat_eq n) c.entries))
              (without_fits n c.cap (keys_of c.entries) (subst (λ m. m ≤ c.cap) (sym (length-keys_of c.entries)) is.fits));
          distinct = subst (IsDistinct (λ a b. a == b)) (sym keys) (distinct_without n (keys_of c.entries) is.distinct);
          each = λ m bytes at. each m bytes (left_out n m bytes at) (is.each m bytes (Contains-remove_entry (nat_eq n) c.entries (m, bytes) at));
        }

  -- a cache with no page yet
  pub empty_cache : (store : PagesView D) (room : ℕ) → 1 ≤ room → IsCache is_known image store (lru_cache [] room)
  unfolding IsDistinct
  empty_cache store room some = record {
    some = some;
    fits = omega arith;
    distinct = tt;
    each = λ n bytes at. absurd (Contains-nil (n, bytes) at);
  }

  -- after a change was committed or abandoned: nothing is staged, and the other pages are as before
  pub ended_cache : (old new : PagesView D) (c : LruCache ℕ (List ℕ)) → has new ≡ has old → new.staged ≡ [] → is_known new.disk ≡ is_known old.disk
      → ((n : ℕ) → IsTrue (has old n) → is_among n (keys_of old.staged) ≡ false → IsTrue (is_known old.disk) → page (image new.disk) n ≡ page (image old.disk) n)
      → IsCache is_known image old c → IsCache is_known image new c
  ended_cache old new c same_has none told same is = stays old new c (λ n bytes page_is. record {
    there = subst (λ (f : ℕ → Bool). IsTrue (f n)) (sym same_has) page_is.there;
    unput = ap (λ (es : List (ℕ × List ℕ)). is_among n (keys_of es)) none;
    bytes_are = λ known. let before = subst IsTrue told known in
        page_is.bytes_are before ∙ sym (same n page_is.there page_is.unput before);
  }) is

  -- a page but the one that was put
  pub other_page : (old new : PagesView D) (n : ℕ) → new ≡ record old { staged = new.staged }
      → ((m : ℕ) → is_among m (keys_of new.staged) ≡ (n == m || is_among m (keys_of old.staged))) → (m : ℕ) (bytes : List ℕ) → (m ≡ n → ⊥)
      → IsCachedPage is_known image old m bytes → IsCachedPage is_known image new m bytes
  other_page old new n changed joins m bytes other is = record {
    there = subst (λ (f : ℕ → Bool). IsTrue (f m)) (sym (ap has changed)) is.there;
    unput = joins m ∙ ap (λ b. b || is_among m (keys_of old.staged)) (differs n m other) ∙ is.unput;
    bytes_are = λ known. is.bytes_are (subst IsTrue (ap (λ (v : PagesView D). is_known v.disk) changed) known)
        ∙ sym (ap (λ (v : PagesView D). page (image v.disk) m) changed);
  }
    where
      differs : (n m : ℕ) → (m ≡ n → ⊥) → (n == m) ≡ false
      differs n m other = grind (arith, nat_tests)
