-- Samples at places.
use Rattle.std.proofs.Common.{ℕ, ◌<◌, List, [], map, length, get_or, All}
use Rattle.std.proofs.lemmas.List.Elements.{All-map}
use Rattle.spb_defs.specs.Choice.{sample_at}

-- what holds of each sample holds of those at places among them
pub All-sample_at : (P : List ℕ → Type 0) (samples : List (List ℕ)) (places : List ℕ) → All P samples → All (λ place. place < length samples) places
    → All P (map (sample_at samples) places)
All-sample_at P samples places all within = All-map P (sample_at samples) places (λ k d below. all (get_or places k d) [] (within k d below))
