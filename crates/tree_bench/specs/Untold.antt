-- Pages in memory.
use Rattle.std.specs.Prelude.{ℕ, ◌+◌, ◌≤◌, Bool, List, [], length, slice_index_or}
use Rattle.page_laws.specs.Pages.{AreFree}
use Rattle.free_list.specs.FreeNumbers.{FreeNumbers, is_within}

-- the pages, which of them are the pool and which of the pool are free, and how many were asked for
pub record Held : Type 0 where
  pub pages : List (List ℕ)
  pub pool : FreeNumbers
  pub fetches : ℕ

-- whether there is a page of this number: those of the pool
abbrev pub has : Held → ℕ → Bool
has p n = is_within p.pool.first p.pool.count n

-- what each page holds
abbrev pub page_at : Held → ℕ → List ℕ
page_at p n = slice_index_or p.pages n []

-- the pages of the pool are held, their numbers are of 32 bits, and the free ones are of the pool
pub record IsHeld (p : Held) : Type 0 where
  pub few : length p.pages ≤ 4294967295
  pub room : p.pool.first + p.pool.count ≤ length p.pages
  pub free : AreFree (has p) p.pool.numbers
