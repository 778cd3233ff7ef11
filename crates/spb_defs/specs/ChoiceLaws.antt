-- The first place of the greatest number, and how many places are chosen.
use Rattle.std.proofs.Common.{◌≡◌, ℕ, ◌<◌, ◌≤◌, List, [], ◌∷◌, length, get_or, map, max, ◌==◌, All, refl, sym, ap, ◌∙◌, arith, Bool, true, false, zero, suc, length-append}
use Rattle.std.specs.List.{range_with_len}
use Rattle.std.proofs.lemmas.Bool.Decides.{nat_tests}
use Rattle.std.proofs.lemmas.List.{length-map}
use Rattle.std.proofs.lemmas.List.Elements.{All-append, All-cons, All-get_or, All-map}
use Rattle.std.proofs.lemmas.List.FromFn.{length-map-range_with_len}
use Rattle.metric_laws.specs.Objects.{Object, Distance}
use Rattle.metrics_builtin.specs.Vectors.{greatest}
use Rattle.spb_defs.specs.Choice.{sample_at, worth, first_place, next_place, chosen_places, chosen_samples}

-- ---- the first place of the greatest

pub greatest-cons : (x : ℕ) (xs : List ℕ) → greatest (x ∷ xs) ≡ max x (greatest xs)
greatest-cons x xs = grind (arith, nat_tests)

-- the greatest of some numbers is the first, or the greatest of the others
pub first_place-at : (n x : ℕ) (xs : List ℕ) → x ≡ n → first_place n (x ∷ xs) ≡ 0
first_place-at n x xs is = grind (arith, nat_tests)

pub first_place-behind : (n x : ℕ) (xs : List ℕ) → (x == n) ≡ false → first_place n (x ∷ xs) ≡ suc (first_place n xs)
first_place-behind n x xs not = grind (arith, nat_tests)

pub rest-greatest : (x : ℕ) (xs : List ℕ) → (x == greatest (x ∷ xs)) ≡ false → greatest (x ∷ xs) ≡ greatest xs
rest-greatest x xs not = grind (arith, nat_tests)

-- the first place of the greatest of some numbers is one of theirs
pub first_place-within : (xs : List ℕ) → 0 < length xs → first_place (greatest xs) xs < length xs
first_place-within [] some = omega arith
first_place-within (x ∷ []) some = grind (arith, nat_tests)
first_place-within (x ∷ y ∷ ys) some = either (first_place-within (y ∷ ys) (omega arith)) (x == greatest (x ∷ y ∷ ys)) refl
  where
    either : first_place (greatest (y ∷ ys)) (y ∷ ys) < length (y ∷ ys) → (b : Bool) → (x == greatest (x ∷ y ∷ ys)) ≡ b
        → first_place (greatest (x ∷ y ∷ ys)) (x ∷ y ∷ ys) < length (x ∷ y ∷ ys)
    either behind true is =
        let same : x ≡ greatest (x ∷ y ∷ ys) = grind (arith, nat_tests) in
        let first = first_place-at _ x (y ∷ ys) same in
        omega arith
    either behind false not =
        let same = ap (λ n. first_place n (y ∷ ys)) (rest-greatest x (y ∷ ys) not) in
        let all = first_place-behind _ x (y ∷ ys) not in
        omega arith

-- and the greatest is there
pub first_place-holds : (xs : List ℕ) → get_or xs (first_place (greatest xs) xs) 0 ≡ greatest xs
first_place-holds [] = refl
first_place-holds (x ∷ xs) = either (first_place-holds xs) (x == greatest (x ∷ xs)) refl
  where
    either : get_or xs (first_place (greatest xs) xs) 0 ≡ greatest xs → (b : Bool) → (x == greatest (x ∷ xs)) ≡ b
        → get_or (x ∷ xs) (first_place (greatest (x ∷ xs)) (x ∷ xs)) 0 ≡ greatest (x ∷ xs)
    either rest true is =
        let same : x ≡ greatest (x ∷ xs) = grind (arith, nat_tests) in
        ap (λ k. get_or (x ∷ xs) k 0) (first_place-at _ x xs same) ∙ same
    either rest false not =
        let same = rest-greatest x xs not in
        ap (λ k. get_or (x ∷ xs) k 0) (first_place-behind _ x xs not) ∙ ap (λ n. get_or xs (first_place n xs) 0) same ∙ rest ∙ sym same

-- no number is greater
pub greatest-above : (xs : List ℕ) (k : ℕ) → get_or xs k 0 ≤ greatest xs
greatest-above [] k = omega arith
greatest-above (x ∷ xs) zero = let all = greatest-cons x xs in omega arith
greatest-above (x ∷ xs) (suc k) =
    let all = greatest-cons x xs in
    let rest = greatest-above xs k in
    omega arith

-- ---- the places

-- this many places are chosen
pub chosen-length : (dist : Distance) (samples : List Object) (n : ℕ) → length (chosen_places dist samples n) ≡ n
unfolding chosen_places
chosen-length dist samples zero = refl
chosen-length dist samples (suc n) =
    let front = chosen_places dist samples n in
    let rest = chosen-length dist samples n in
    length-append front (next_place dist samples front ∷ []) ∙ omega arith

-- each of them is a place of a sample
pub next-within : (dist : Distance) (samples : List Object) (chosen : List ℕ) → 0 < length samples → next_place dist samples chosen < length samples
next-within dist samples chosen some =
    let worths = map (worth dist samples chosen) (range_with_len 0 (length samples)) in
    let many : length worths ≡ length samples = length-map-range_with_len (worth dist samples chosen) 0 (length samples) in
    let within = first_place-within worths (omega arith) in
    omega arith

none-within : (m : ℕ) → All (λ (place : ℕ). place < m) []
none-within m k d below = absurd (omega arith)

pub chosen-within : (dist : Distance) (samples : List Object) (n : ℕ) → n ≤ length samples
    → All (λ (place : ℕ). place < length samples) (chosen_places dist samples n)
unfolding chosen_places
chosen-within dist samples zero enough = none-within (length samples)
chosen-within dist samples (suc n) enough =
    let front = chosen_places dist samples n in
    let next = next-within dist samples front (omega arith) in
    All-append (λ (place : ℕ). place < length samples) front (next_place dist samples front ∷ []) (chosen-within dist samples n (omega arith))
    (All-cons (λ (place : ℕ). place < length samples) (next_place dist samples front) [] next (none-within (length samples)))

-- the objects at the places: as many, and each is a sample
pub length-chosen_samples : (dist : Distance) (samples : List Object) (n : ℕ) → length (chosen_samples dist samples n) ≡ n
length-chosen_samples dist samples n = length-map (chosen_places dist samples n) (sample_at samples) ∙ chosen-length dist samples n

pub All-chosen_samples : (P : List ℕ → Type 0) (dist : Distance) (samples : List Object) (n : ℕ) → n ≤ length samples → All P samples
    → All P (chosen_samples dist samples n)
All-chosen_samples P dist samples n enough all =
    let places = chosen_places dist samples n in
    let within : All (λ (place : ℕ). place < length samples) places = chosen-within dist samples n enough in
    All-map P (sample_at samples) places (λ k d inside. All-get_or P samples (get_or places k d) [] (within k d inside) all)
