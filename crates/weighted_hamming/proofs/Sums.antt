-- The sum of all weights.
use Rattle.std.proofs.Common.{◌≡◌, ℕ, ◌<◌, ◌≤◌, ◌^◌, List, length, take, sum, ap, ◌∙◌, arith, subst}
use Rattle.std.specs.Prelude.{All}
use Rattle.std.proofs.lemmas.List.{take_all}
use Rattle.weighted_hamming.specs.Weighted.{AreWeights}

-- what holds of the first i weights holds of all where there are no more
pub weights_at_end : (ws : List ℕ) (i total : ℕ) → length ws ≤ i → All (λ weight. 1 ≤ weight) (take i ws) →
    total ≡ sum (take i ws) → total < 2 ^ 32 → AreWeights ws × (total ≡ sum ws)
weights_at_end ws i total end positive is few =
    let all : take i ws ≡ ws = take_all i ws end in
    let total_is : total ≡ sum ws = is ∙ ap (λ xs. sum xs) all in
    (record { positive = subst (λ xs. All (λ weight. 1 ≤ weight) xs) all positive; few = omega arith }, total_is)
