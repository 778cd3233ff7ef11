-- The choice of pivots from samples, for any distance: the first sample, and then each time the one whose distances
-- to the chosen ones have the greatest sum, the first of several such.
use Rattle.std.specs.Prelude.{ℕ, ◌+◌, ◌-◌, ◌==◌, List, [], ◌∷◌, ◌++◌, length, map, sum_by, if◌then◌else◌, zero, suc}
use Rattle.std.specs.List.{list_any, range_with_len, slice_index_or}
use Rattle.metric_laws.specs.Objects.{Object, Distance}
use Rattle.metrics_builtin.specs.Vectors.{greatest}

-- the object at a place
abbrev pub sample_at : List Object → ℕ → List ℕ
sample_at samples place = slice_index_or samples place []

-- what a place is worth: 0 if it is chosen already, else one more than the sum of its distances to the chosen ones
abbrev pub worth : Distance → List Object → List ℕ → ℕ → ℕ
worth dist samples chosen place =
    if list_any (λ other. other == place) chosen then 0
    else 1 + sum_by (λ other. dist (sample_at samples other) (sample_at samples place)) chosen

-- the first place that holds the number
abbrev pub first_place : ℕ → List ℕ → ℕ
first_place n [] = 0
first_place n (m ∷ ms) = if m == n then 0 else suc (first_place n ms)

-- the next place to choose: the first of those that are worth most
abbrev pub next_place : Distance → List Object → List ℕ → ℕ
next_place dist samples chosen =
    let worths = map (worth dist samples chosen) (range_with_len 0 (length samples)) in
    first_place (greatest worths) worths

-- the first n places of the choice
unfoldable pub chosen_places : Distance → List Object → ℕ → List ℕ
chosen_places dist samples zero = []
chosen_places dist samples (suc n) = let chosen = chosen_places dist samples n in chosen ++ next_place dist samples chosen ∷ []

-- the objects at the first n places
abbrev pub chosen_samples : Distance → List Object → ℕ → List Object
chosen_samples dist samples n = map (sample_at samples) (chosen_places dist samples n)

-- how many distances are measured to choose n of m samples: those of each chosen one but the last to all that aren't
-- chosen yet
abbrev pub choice_evals : ℕ → ℕ → ℕ
choice_evals m zero = 0
choice_evals m (suc zero) = 0
choice_evals m (suc (suc n)) = choice_evals m (suc n) + (m - suc n)
