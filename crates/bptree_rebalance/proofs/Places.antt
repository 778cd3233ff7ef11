-- One row or two in the places of two rows, and lists around a row.
use Rattle.std.proofs.Common.{◌≡◌, ℕ, zero, suc, ◌+◌, ◌<◌, List, [], ◌∷◌, ◌++◌, length, take, drop, get_or, refl, ap, subst, arith, length-append}
use Rattle.std.proofs.lemmas.List.{length-take-le, length-drop}
use Rattle.std.specs.List.{remove as removed, replace_range}

one-put : {A : Type 0} (xs : List A) (i : ℕ) (y : A) → suc i < length xs → replace_range (removed xs (suc i)) i (suc i) (y ∷ []) ≡ replace_range xs i (suc (suc i)) (y ∷ [])
one-put [] i y below = absurd (omega (arith, below))
one-put (x ∷ []) i y below = absurd (omega (arith, below))
one-put (x ∷ w ∷ xs) zero y below = refl
one-put (x ∷ w ∷ xs) (suc i) y below = ap (λ zs. x ∷ zs) (one-put (w ∷ xs) i y (omega (arith, below)))

two-put : {A : Type 0} (xs : List A) (i : ℕ) (y z : A) → suc i < length xs
    → replace_range (replace_range xs i (suc i) (y ∷ [])) (suc i) (suc (suc i)) (z ∷ []) ≡ replace_range xs i (suc (suc i)) (y ∷ z ∷ [])
two-put [] i y z below = absurd (omega (arith, below))
two-put (x ∷ []) i y z below = absurd (omega (arith, below))
two-put (x ∷ w ∷ xs) zero y z below = refl
two-put (x ∷ w ∷ xs) (suc i) y z below = ap (λ zs. x ∷ zs) (two-put (w ∷ xs) i y z (omega (arith, below)))

-- the row behind a place is taken out, and the one there is written
pub one-for-two : {A : Type 0} (xs : List A) (i : ℕ) (y : A) → i + 1 < length xs → replace_range (removed xs (i + 1)) i (i + 1) (y ∷ []) ≡ replace_range xs i (i + 2) (y ∷ [])
one-for-two xs i y below =
    let one : suc i ≡ i + 1 = omega arith in
    let two : suc (suc i) ≡ i + 2 = omega arith in
    subst (λ (k : ℕ). replace_range (removed xs (i + 1)) i (i + 1) (y ∷ []) ≡ replace_range xs i k (y ∷ [])) two
    (subst (λ (k : ℕ). replace_range (removed xs k) i k (y ∷ []) ≡ replace_range xs i (suc (suc i)) (y ∷ [])) one (one-put xs i y (omega (arith, below))))

-- the row at a place is written, and then the one behind it
pub two-for-two : {A : Type 0} (xs : List A) (i : ℕ) (y z : A) → i + 1 < length xs
    → replace_range (replace_range xs i (i + 1) (y ∷ [])) (i + 1) (i + 1 + 1) (z ∷ []) ≡ replace_range xs i (i + 2) (y ∷ z ∷ [])
two-for-two xs i y z below =
    let one : suc i ≡ i + 1 = omega arith in
    let two : suc (suc i) ≡ i + 2 = omega arith in
    let next : suc (suc i) ≡ i + 1 + 1 = omega arith in
    subst (λ (k : ℕ). replace_range (replace_range xs i (i + 1) (y ∷ [])) (i + 1) (i + 1 + 1) (z ∷ []) ≡ replace_range xs i k (y ∷ z ∷ [])) two
    (subst (λ (k : ℕ). replace_range (replace_range xs i (i + 1) (y ∷ [])) (i + 1) k (z ∷ []) ≡ replace_range xs i (suc (suc i)) (y ∷ z ∷ [])) next
    (subst (λ (k : ℕ). replace_range (replace_range xs i k (y ∷ [])) k (suc (suc i)) (z ∷ []) ≡ replace_range xs i (suc (suc i)) (y ∷ z ∷ [])) one
    (two-put xs i y z (omega (arith, below)))))

-- what is behind a row's place begins with the row
pub drop-next : {A : Type 0} (xs : List A) (i : ℕ) (d : A) → i < length xs → drop i xs ≡ get_or xs i d ∷ drop (suc i) xs
drop-next [] i d below = absurd (omega (arith, below))
drop-next (x ∷ xs) zero d below = refl
drop-next (x ∷ xs) (suc i) d below = drop-next xs i d (omega (arith, below))

-- a row that is written leaves the count
pub one-for-one : {A : Type 0} (xs : List A) (i : ℕ) (y : A) → i < length xs → length (replace_range xs i (i + 1) (y ∷ [])) ≡ length xs
one-for-one xs i y below =
    omega (arith, length-append (take i xs ++ (y ∷ [])) (drop (i + 1) xs), length-append (take i xs) (y ∷ []), length-take-le i xs (omega (arith, below)), length-drop (i + 1) xs, below)
