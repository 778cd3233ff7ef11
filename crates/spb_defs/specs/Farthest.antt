-- What the choice of pivots is, said of the places alone.
use Rattle.std.specs.Prelude.{◌≡◌, ℕ, ◌<◌, ◌≤◌, ◌==◌, nat_eq, false, List, length, take, slice_index, sum_by, All}
use Rattle.std.specs.List.{list_any, IsDistinct}
use Rattle.metric_laws.specs.Objects.{Object, Distance}
use Rattle.spb_defs.specs.Choice.{sample_at}

-- the sum of the distances of the object at a place to the chosen ones
abbrev pub sum_to : Distance → List Object → List ℕ → ℕ → ℕ
sum_to dist samples chosen place = sum_by (λ other. dist (sample_at samples other) (sample_at samples place)) chosen

-- At each turn no place that wasn't chosen before has a greater sum of distances to those that were, and none with an
-- equal sum comes before the one that is chosen.
abbrev pub IsFarthestFirst : Distance → List Object → List ℕ → Type 0
IsFarthestFirst dist samples places =
    (turn place : ℕ) → turn < length places → place < length samples → list_any (λ other. other == place) (take turn places) ≡ false →
    (sum_to dist samples (take turn places) place ≤ sum_to dist samples (take turn places) (slice_index places turn))
    × (sum_to dist samples (take turn places) place ≡ sum_to dist samples (take turn places) (slice_index places turn) → slice_index places turn ≤ place)

-- this many places of samples, no two of them equal, and each the first of those farthest from the ones before it
pub record IsChoice (dist : Distance) (samples : List Object) (n : ℕ) (places : List ℕ) : Type 0 where
  pub count : length places ≡ n
  pub within : All (λ place. place < length samples) places
  pub distinct : IsDistinct nat_eq places
  pub farthest : IsFarthestFirst dist samples places
