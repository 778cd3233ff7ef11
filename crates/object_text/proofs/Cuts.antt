-- The first part of a list and the rest, by the first place that passes.
use Rattle.std.proofs.Common.{◌≡◌, ℕ, ◌+◌, ◌<◌, ◌≤◌, Bool, true, false, cond, List, [], ◌∷◌, length, take, drop, refl, subst, arith, Some, None, nat_lt}
use Rattle.std.specs.List.{position, position_or_len, slice_split}
use Rattle.std.proofs.lemmas.Bool.Decides.{nat_tests}
use Rattle.std.proofs.lemmas.List.Splits.{slice_split_none, slice_split_first}
use Rattle.std.proofs.lemmas.List.Sums.{fails_before_first}

choice_some : (b : Bool) (n i : ℕ) → cond b (Some n) None ≡ Some i → (b ≡ true) × (n ≡ i)
choice_some true n i e = (refl, cc)
choice_some false n i e = absurd (cc)

choice_none : (b : Bool) (n : ℕ) → cond b (Some n) None ≡ None → b ≡ false
choice_none true n e = absurd (cc)
choice_none false n e = refl

pub split-none : (p : ℕ → Bool) (xs : List ℕ) → position p xs ≡ None → slice_split p xs ≡ xs ∷ []
split-none p xs e =
    let past : nat_lt (position_or_len p xs) (length xs) ≡ false = choice_none (nat_lt (position_or_len p xs) (length xs)) (position_or_len p xs) e in
    let whole : length xs ≤ position_or_len p xs = grind (arith, nat_tests) in
    slice_split_none p xs (λ k d h. fails_before_first p xs k d (omega arith))

pub split-some : (p : ℕ → Bool) (xs : List ℕ) (i : ℕ) → position p xs ≡ Some i → slice_split p xs ≡ take i xs ∷ slice_split p (drop (i + 1) xs)
split-some p xs i e =
    let parts = choice_some (nat_lt (position_or_len p xs) (length xs)) (position_or_len p xs) i e in
    let below : nat_lt (position_or_len p xs) (length xs) ≡ true = parts.0 in
    let inside : position_or_len p xs < length xs = grind (arith, nat_tests) in
    subst (λ (n : ℕ). slice_split p xs ≡ take n xs ∷ slice_split p (drop (n + 1) xs)) parts.1 (slice_split_first p xs 0 inside)
