-- An index from ids to places.
use Rattle.std.specs.Prelude.{◌≡◌, ℕ, ◌<◌, List, length, slice_index, Option, Some}

-- the index has the place of each id, and nothing else
pub record IsIndexed (place_of : ℕ → Option ℕ) (ids : List ℕ) : Type 0 where
  pub here : (place : ℕ) → place < length ids → place_of (slice_index ids place) ≡ Some place
  pub held : (id place : ℕ) → place_of id ≡ Some place → (place < length ids) × (slice_index ids place ≡ id)
