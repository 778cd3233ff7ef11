-- The free numbers of a range.
use Rattle.std.specs.Prelude.{◌≡◌, ℕ, ◌+◌, ◌≤◌, ◌<◌, Bool, false, ◌&&◌, nat_le, nat_lt, List, length, slice_index_or}
use Rattle.page_laws.specs.Pages.{is_among, AreFree}

-- the first number of the range, how many it has, and those that are free
pub record FreeNumbers : Type 0 where
  pub first : ℕ
  pub count : ℕ
  pub numbers : List ℕ

-- whether the number is one of so many from the first on
abbrev pub is_within : ℕ → ℕ → ℕ → Bool
is_within first count n = nat_le first n && nat_lt n (first + count)

-- the mark of a number is set exactly if the number is among these
pub record IsMarked (first : ℕ) (marks : List Bool) (numbers : List ℕ) : Type 0 where
  pub by_place : (i : ℕ) → i < length marks → slice_index_or marks i false ≡ is_among (first + i) numbers

-- the range is one of 32 bits, the free numbers are of it, each is marked, and there is room for all of the range
pub record IsFreeList (l : FreeNumbers) (marks : List Bool) (capacity : ℕ) : Type 0 where
  pub range : l.first + l.count ≤ 4294967295
  pub free : AreFree (is_within l.first l.count) l.numbers
  pub marked : IsMarked l.first marks l.numbers
  pub room : l.count ≤ capacity
