-- Sets of pages, by their marks.
use Rattle.std.specs.Prelude.{◌≡◌, ℕ, ◌+◌, ◌-◌, Bool, false, IsTrue, ◌&&◌, cond, nat_le, nat_lt, List, length, slice_index_or}

-- the first page of the range, and a mark for each of its pages
pub record Marks : Type 0 where
  pub first : ℕ
  pub marks : List Bool

-- whether the page is of the range
abbrev pub covers : Marks → ℕ → Bool
covers s n = nat_le s.first n && nat_lt n (s.first + length s.marks)

-- whether the page is in the set
unfoldable pub has : Marks → ℕ → Bool
has s n = covers s n && slice_index_or s.marks (n - s.first) false

-- how often the page is in the set
abbrev pub uses : Marks → ℕ → ℕ
uses s n = cond (has s n) 1 0

-- the ranges are the same
pub record HasSameRange (old new : Marks) : Type 0 where
  pub first : new.first ≡ old.first
  pub count : length new.marks ≡ length old.marks

-- each page of the pool is of the range
abbrev pub CoversPool : (ℕ → Bool) → Marks → Type 0
CoversPool in_pool s = (n : ℕ) → IsTrue (in_pool n) → IsTrue (covers s n)
