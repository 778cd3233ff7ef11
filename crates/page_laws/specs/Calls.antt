-- What calls on pages leave as it was.
use Rattle.std.specs.Prelude.{◌≡◌, ℕ, Bool, IsTrue, List}

-- of pages with these members, what goes on whatever a call answers: whether they tell what they hold, which pages
-- there are, the pool, the free pages, and whether a change is open; and the call was calm
pub record PagesContinue {P : Type 0} (is_known : P → Bool) (has in_pool : P → ℕ → Bool) (free : P → List ℕ) (is_open : P → Bool)
    (calm : P → P → Type 0) (old new : P) : Type 0 where
  pub told : is_known new ≡ is_known old
  pub map : has new ≡ has old
  pub pool : in_pool new ≡ in_pool old
  pub free_pages : free new ≡ free old
  pub change : is_open new ≡ is_open old
  pub calmly : calm old new

-- the same if what the pages hold and which were put is left as it was, too
pub record PagesStay {P : Type 0} (is_known : P → Bool) (has in_pool : P → ℕ → Bool) (page_at : P → ℕ → List ℕ) (free : P → List ℕ) (is_open : P → Bool)
    (put_pages : P → List ℕ) (calm : P → P → Type 0) (old new : P) : Type 0 where
  pub continues : PagesContinue is_known has in_pool free is_open calm old new
  pub contents : IsTrue (is_known old) → page_at new ≡ page_at old
  pub put : put_pages new ≡ put_pages old

-- of pages that a change puts, takes and gives back, what goes on whatever a call answers
pub record PagesChange {P : Type 0} (is_known : P → Bool) (has in_pool : P → ℕ → Bool) (is_open : P → Bool) (calm : P → P → Type 0) (old new : P) : Type 0 where
  pub told : is_known new ≡ is_known old
  pub map : has new ≡ has old
  pub pool : in_pool new ≡ in_pool old
  pub change : is_open new ≡ is_open old
  pub calmly : calm old new
