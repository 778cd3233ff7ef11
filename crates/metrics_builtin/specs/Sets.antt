-- A set of numbers as an object: its elements ascending, each a number in four bytes, the highest
-- byte first.
use Rattle.std.specs.Prelude.{◌≡◌, ℕ, ◌<◌, ◌≤◌, ◌==◌, Bool, true, false, not, List, length, All, count_by}
use Rattle.std.specs.List.{list_any, range_with_len}
use Rattle.std.specs.List.Sorted.{IsStrictlyIncreasing}
use Rattle.metrics_builtin.specs.Vectors.{object_of_components}

-- at most `most` ascending numbers below `universe`
pub record IsRisingWithin (universe most : ℕ) (elements : List ℕ) : Type 0 where
  pub rising : IsStrictlyIncreasing elements
  pub within : All (λ x. x < universe) elements
  pub few : length elements ≤ most

-- the object spells at most `most` ascending elements below `universe`
pub record IsSubset (universe most : ℕ) (object : List ℕ) : Type 0 where
  pub elements : List ℕ
  pub set : IsRisingWithin universe most elements
  pub spelling : object ≡ object_of_components elements

-- whether the number is one of the elements
abbrev pub is_element : List ℕ → ℕ → Bool
is_element elements e = list_any (λ x. x == e) elements

-- whether exactly one of the two holds
abbrev pub exactly_one : Bool → Bool → Bool
exactly_one true b = not b
exactly_one false b = b

-- how many numbers below `universe` are elements of exactly one of the two
unfoldable pub set_dist : ℕ → List ℕ → List ℕ → ℕ
set_dist universe xs ys = count_by (λ e. exactly_one (is_element xs e) (is_element ys e)) (range_with_len 0 universe)
