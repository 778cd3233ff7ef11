-- What staging a page does to the pages of a change, and to the pages that they overlay.
use Rattle.std.specs.Prelude.{◌≡◌, ℕ, ◌+◌, ◌≤◌, ◌||◌, ◌==◌, List, length}
use Rattle.std.specs.Map.{keys_of}
use Rattle.redo_journal.specs.Redo.{overlay, is_listed}

-- at most one page more, and the numbers are those of before and this one
pub record AddsOne (n : ℕ) (old new : List (ℕ × List ℕ)) : Type 0 where
  pub no_fewer : length old ≤ length new
  pub one_more : length new ≤ length old + 1
  pub numbers_are : (m : ℕ) → is_listed m (keys_of new) ≡ (n == m || is_listed m (keys_of old))

-- over any pages, this page is at its number, and all others are as before
pub record OverlaysOne (n : ℕ) (page : List ℕ) (old new : List (ℕ × List ℕ)) : Type 0 where
  pub here : (pages : ℕ → List ℕ) → overlay new pages n ≡ page
  pub elsewhere : (pages : ℕ → List ℕ) (m : ℕ) → (m ≡ n → ⊥) → overlay new pages m ≡ overlay old pages m
