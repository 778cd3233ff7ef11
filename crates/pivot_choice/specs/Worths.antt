-- What the choice keeps of each place between two iterations, and which pairs it measures.
use Rattle.std.specs.Prelude.{ℕ, ◌+◌, ◌==◌, Bool, not, nat_lt, List, [], ◌++◌, length, map, slice_index, if◌then◌else◌, zero, suc}
use Rattle.std.specs.List.{filter, list_any, range_with_len}
use Rattle.metric_laws.specs.Objects.{Object, Distance}
use Rattle.metric_laws.specs.Log.{MeasuredPair, each_with}
use Rattle.spb_defs.specs.Choice.{sample_at, chosen_places, next_place}

-- a place that isn't chosen yet is worth more than nothing
abbrev pub is_unchosen : ℕ → Bool
is_unchosen worth = nat_lt 0 worth

-- what a place is worth once the distance to one more chosen sample is added: a chosen place stays worth nothing
abbrev pub updated_worth : Distance → List Object → ℕ → ℕ → ℕ → ℕ
updated_worth dist samples chosen place worth =
    if worth == 0 then 0 else worth + dist (sample_at samples chosen) (sample_at samples place)

-- the samples at the first places that are worth something, by ascending place
abbrev pub unchosen_among_first : List ℕ → List Object → ℕ → List Object
unchosen_among_first worths samples places = map (sample_at samples) (filter (λ place. is_unchosen (slice_index worths place)) (range_with_len 0 places))

-- the samples that aren't chosen, by ascending place
abbrev pub unchosen_samples : List Object → List ℕ → List Object
unchosen_samples samples chosen =
    map (sample_at samples) (filter (λ place. not (list_any (λ other. other == place) chosen)) (range_with_len 0 (length samples)))

-- the pairs that are measured to choose n places: each chosen sample but the last with all that aren't chosen yet
abbrev pub choice_visits : Distance → List Object → ℕ → List MeasuredPair
choice_visits dist samples zero = []
choice_visits dist samples (suc zero) = []
choice_visits dist samples (suc (suc n)) =
    choice_visits dist samples (suc n)
    ++ each_with (sample_at samples (next_place dist samples (chosen_places dist samples n))) (unchosen_samples samples (chosen_places dist samples (suc n)))
