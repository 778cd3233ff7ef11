-- What a get says of the list and of the disk's reads.
use Rattle.std.proofs.Common.{◌≡◌, ℕ, ◌==◌, not, ◌&&◌, Bool, true, false, if◌then◌else◌, List, ◌∷◌, take, Option, Some, None, refl, sym, ap, ◌∙◌}
use Rattle.std.specs.Prelude.{is_some}
use Rattle.std.specs.Map.{keys_of, lookup}
use Rattle.std.proofs.lemmas.Bool.{false≢true}
use Rattle.std.proofs.lemmas.Map.Made.{is_some-lookup}
use Rattle.page_laws.specs.Pages.{is_among, count_after}
use Rattle.page_store.specs.PageStore.{PagesView, reads_after}
use Rattle.page_cache.specs.Misses.{MostRecent, without, is_miss, misses_of, after_get}
use Rattle.page_cache.specs.Cached.{recent_of}

-- the list is the same if the cache has the same keys, and the same pages were put
pub same_recent : {D : Type 0} (old new : PagesView D) (ks ls : List ℕ) → ls ≡ ks → keys_of new.staged ≡ keys_of old.staged
    → recent_of new ls ≡ recent_of old ks
same_recent {D} old new ks ls same staged =
    ap (λ (l : List ℕ). recent_of new l) same ∙ ap (λ (put : List ℕ). record { pages = ks; is_put = λ (m : ℕ). is_among m put }) staged

-- a get of a page that was put, or not
pub stays_out : (room n : ℕ) (r : MostRecent) → r.is_put n ≡ true → after_get room n r ≡ r
stays_out room n r put = ap (λ (b : Bool). record r { pages = if b then r.pages else take room (n ∷ without n r.pages) }) put

pub goes_first : (room n : ℕ) (r : MostRecent) → r.is_put n ≡ false → after_get room n r ≡ record r { pages = take room (n ∷ without n r.pages) }
goes_first room n r unput = ap (λ (b : Bool). record r { pages = if b then r.pages else take room (n ∷ without n r.pages) }) unput

-- one that is in the list isn't missed
abbrev count_of : Bool → ℕ
count_of missed = if missed then 1 else 0

pub hit_misses : (n : ℕ) (r : MostRecent) → is_among n r.pages ≡ true → misses_of n r ≡ 0
hit_misses n r there = by (r.is_put n) (is_among n r.pages) there
  where
    by : (a b : Bool) → b ≡ true → count_of (not a && not b) ≡ 0
    by true true is = refl
    by false true is = refl
    by a false is = absurd (false≢true is)

-- one that is neither there nor put is
pub is_missed : (n : ℕ) (r : MostRecent) → r.is_put n ≡ false → is_among n r.pages ≡ false → is_miss n r ≡ true
is_missed n r unput none = ap (λ (b : Bool). not b && not (is_among n r.pages)) unput ∙ ap not none

-- a page that isn't cached is read if it wasn't put
pub miss_reads : {D : Type 0} (n reads : ℕ) (store : PagesView D) (ks : List ℕ) → is_among n ks ≡ false
    → reads_after (lookup (λ m. m == n) store.staged) reads ≡ count_after reads (misses_of n (recent_of store ks))
miss_reads {D} n reads store ks none =
    by (lookup (λ m. m == n) store.staged) (is_among n (keys_of store.staged)) (is_among n ks) (is_some-lookup (λ m. m == n) store.staged) none
  where
    by : (o : Option (List ℕ)) (b a : Bool) → is_some o ≡ b → a ≡ false → reads_after o reads ≡ count_after reads (count_of (not b && not a))
    by (Some p) true false is none = refl
    by (Some p) false a is none = absurd (false≢true (sym is))
    by None true a is none = absurd (false≢true is)
    by None false false is none = refl
    by o b true is none = absurd (false≢true (sym none))
