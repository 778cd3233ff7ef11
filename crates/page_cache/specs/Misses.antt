-- The misses of a most-recent list: which requests for pages read them again, whatever keeps the pages.
use Rattle.std.specs.Prelude.{◌≡◌, ℕ, ◌+◌, ◌==◌, Bool, false, not, ◌&&◌, ◌||◌, if◌then◌else◌, List, [], ◌∷◌, take, Result, Ok, Err}
use Rattle.std.specs.List.{filter}
use Rattle.page_laws.specs.Pages.{is_among}

-- the pages that were read lately, the most recent first, and which pages were put in the open change
pub record MostRecent : Type 0 where
  pub pages : List ℕ
  pub is_put : ℕ → Bool

-- the pages but this one
abbrev pub without : ℕ → List ℕ → List ℕ
without n pages = filter (λ m. not (m == n)) pages

-- whether a get of the page reads it: it was neither put in the open change nor read lately
abbrev pub is_miss : ℕ → MostRecent → Bool
is_miss n r = not (r.is_put n) && not (is_among n r.pages)

-- how often a get of the page reads
abbrev pub misses_of : ℕ → MostRecent → ℕ
misses_of n r = if is_miss n r then 1 else 0

-- after a get of the page: it is in front of the others, and the last one goes if there are more than room; one that was
-- put stays out of the list
abbrev pub after_get : ℕ → ℕ → MostRecent → MostRecent
after_get room n r = record r { pages = if r.is_put n then r.pages else take room (n ∷ without n r.pages) }

-- after a put of the page: it is put, and out of the list
abbrev pub after_put : ℕ → MostRecent → MostRecent
after_put n r = record { pages = without n r.pages; is_put = λ m. n == m || r.is_put m }

-- after the change was committed or abandoned: no page is put
abbrev pub after_change : MostRecent → MostRecent
after_change r = record r { is_put = λ _. false }

-- what a get's answer says: a refused one leaves all as it was
abbrev pub Gets : {E : Type 0} → ℕ → ℕ → Result Unit E → MostRecent → MostRecent → Type 0
Gets room n (Ok _) old new = new ≡ after_get room n old
Gets room n (Err _) old new = new ≡ old

-- what is asked of pages, as far as it makes a difference to the list
pub data Request : Type 0 where
  Get : ℕ → Request
  Put : ℕ → Request
  EndChange : Request

-- nothing was read yet, and nothing put
abbrev pub nothing_yet : MostRecent
nothing_yet = record { pages = []; is_put = λ _. false }

-- what requests leave, if none is refused
abbrev pub after_all : ℕ → MostRecent → List Request → MostRecent
after_all room r [] = r
after_all room r (Get n ∷ rest) = after_all room (after_get room n r) rest
after_all room r (Put n ∷ rest) = after_all room (after_put n r) rest
after_all room r (EndChange ∷ rest) = after_all room (after_change r) rest

-- how often they read
abbrev pub misses : ℕ → MostRecent → List Request → ℕ
misses room r [] = 0
misses room r (Get n ∷ rest) = misses_of n r + misses room (after_get room n r) rest
misses room r (Put n ∷ rest) = misses room (after_put n r) rest
misses room r (EndChange ∷ rest) = misses room (after_change r) rest
