-- A vector as an object: its components one after the other, each a number in four bytes, the highest byte first.
use Rattle.std.specs.Prelude.{◌≡◌, ℕ, ◌≤◌, List, [], ◌∷◌, length, max, map, All, sum_by}
use Rattle.std.specs.Int.{w32, to_be_bytes, from_be_bytes, abs_diff}
use Rattle.std.specs.List.{flat_map, zip}

-- the components of an object, four bytes each; one to three bytes at the end are none
unfoldable pub components : List ℕ → List ℕ
components (a ∷ b ∷ c ∷ d ∷ rest) = from_be_bytes w32 (a ∷ b ∷ c ∷ d ∷ []) ∷ components rest
components _ = []

-- the object of a list of components
unfoldable pub object_of_components : List ℕ → List ℕ
object_of_components numbers = flat_map (to_be_bytes w32) numbers

-- the object spells `dim` components of at most `most`
pub record IsVector (dim most : ℕ) (object : List ℕ) : Type 0 where
  pub numbers : List ℕ
  pub dimension : length numbers ≡ dim
  pub within : All (λ x. x ≤ most) numbers
  pub spelling : object ≡ object_of_components numbers

-- the sum of the differences, component by component
unfoldable pub l1_dist : List ℕ → List ℕ → ℕ
l1_dist xs ys = sum_by (λ p. abs_diff p.0 p.1) (zip xs ys)

-- the greatest of some numbers, and 0 of none
abbrev pub greatest : List ℕ → ℕ
greatest [] = 0
greatest (x ∷ xs) = max x (greatest xs)

-- the greatest of the differences, component by component
unfoldable pub linf_dist : List ℕ → List ℕ → ℕ
linf_dist xs ys = greatest (map (λ p. abs_diff p.0 p.1) (zip xs ys))
