-- Byte strings whose places have weights.
use Rattle.std.specs.Prelude.{ℕ, ◌<◌, ◌≤◌, ◌^◌, ◌==◌, not, cond, List, All, sum_by, sum}
use Rattle.std.specs.List.{zip}

-- weights of the places of a string: each is at least 1, and their sum fits into 32 bits
pub record AreWeights (weights : List ℕ) : Type 0 where
  pub positive : All (λ weight. 1 ≤ weight) weights
  pub few : sum weights < 2 ^ 32

-- the sum of the weights of the places in which the two differ
unfoldable pub weighted_dist : List ℕ → List ℕ → List ℕ → ℕ
weighted_dist weights a b = sum_by (λ p. cond (not (p.1.0 == p.1.1)) p.0 0) (zip weights (zip a b))
