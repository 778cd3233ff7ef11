-- The first place of the greatest number, one number after the other.
use Rattle.std.proofs.Common.{◌≡◌, ℕ, ◌+◌, ◌<◌, ◌≤◌, List, [], ◌∷◌, ◌++◌, length, get_or, max, take, ◌==◌, refl, sym, ap, ◌∙◌, arith, Bool, true, false, suc}
use Rattle.std.proofs.lemmas.Bool.Decides.{nat_tests}
use Rattle.std.proofs.lemmas.List.{take_more, length-take-le}
use Rattle.metrics_builtin.specs.Vectors.{greatest}
use Rattle.spb_defs.specs.Choice.{first_place}
use Rattle.spb_defs.specs.ChoiceLaws.{greatest-cons, first_place-at, first_place-behind, rest-greatest}

-- one more number
pub greatest-more : (xs : List ℕ) (w : ℕ) → greatest (xs ++ w ∷ []) ≡ max (greatest xs) w
greatest-more [] w = grind (arith, nat_tests)
greatest-more (x ∷ xs) w =
    let rest = greatest-more xs w in
    let whole = greatest-cons x (xs ++ w ∷ []) in
    let front = greatest-cons x xs in
    omega arith

pub first_place-rises : (xs : List ℕ) (w : ℕ) → greatest xs < w → first_place w (xs ++ w ∷ []) ≡ length xs
first_place-rises [] w above = grind (arith, nat_tests)
first_place-rises (x ∷ xs) w above =
    let below : greatest xs < w = grind (arith, nat_tests) in
    let rest = first_place-rises xs w below in
    grind (arith, nat_tests)

pub first_place-stays : (xs : List ℕ) (w : ℕ) → w ≤ greatest xs → first_place (greatest xs) (xs ++ w ∷ []) ≡ first_place (greatest xs) xs
first_place-stays [] w within = grind (arith, nat_tests)
first_place-stays (x ∷ xs) w within = either (λ (below : w ≤ greatest xs). first_place-stays xs w below) (x == greatest (x ∷ xs)) refl
  where
    either : (w ≤ greatest xs → first_place (greatest xs) (xs ++ w ∷ []) ≡ first_place (greatest xs) xs) → (b : Bool) → (x == greatest (x ∷ xs)) ≡ b
        → first_place (greatest (x ∷ xs)) ((x ∷ xs) ++ w ∷ []) ≡ first_place (greatest (x ∷ xs)) (x ∷ xs)
    either rest true is =
        let same : x ≡ greatest (x ∷ xs) = grind (arith, nat_tests) in
        first_place-at _ x (xs ++ w ∷ []) same ∙ sym (first_place-at _ x xs same)
    either rest false not =
        let same = rest-greatest x xs not in
        let below : w ≤ greatest xs = omega arith in
        let behind = ap (λ n. first_place n (xs ++ w ∷ [])) same ∙ rest below ∙ ap (λ n. first_place n xs) (sym same) in
        first_place-behind _ x (xs ++ w ∷ []) not ∙ ap suc behind ∙ sym (first_place-behind _ x xs not)

-- a step of the pass
pub step-rises : (xs : List ℕ) (i most : ℕ) → i < length xs → most ≡ greatest (take i xs) → most < get_or xs i 0 → (get_or xs i 0 ≡ greatest (take (i + 1) xs))
    × (i ≡ first_place (get_or xs i 0) (take (i + 1) xs))
step-rises xs i most inside is above =
    let more = take_more xs i 0 inside in
    let above' : greatest (take i xs) < get_or xs i 0 = omega arith in
    let all = greatest-more (take i xs) (get_or xs i 0) in
    let greatest_is : greatest (take i xs ++ get_or xs i 0 ∷ []) ≡ get_or xs i 0 = omega arith in
    let place = first_place-rises (take i xs) (get_or xs i 0) above' in (
      sym (ap greatest more ∙ greatest_is),
      sym (ap (first_place (get_or xs i 0)) more ∙ place ∙ length-take-le i xs (omega arith)),
    )

pub step-stays : (xs : List ℕ) (i most best : ℕ) → i < length xs → most ≡ greatest (take i xs) → best ≡ first_place most (take i xs) → get_or xs i 0 ≤ most
    → (most ≡ greatest (take (i + 1) xs)) × (best ≡ first_place most (take (i + 1) xs))
step-stays xs i most best inside is at within =
    let more = take_more xs i 0 inside in
    let within' : get_or xs i 0 ≤ greatest (take i xs) = omega arith in
    let all = greatest-more (take i xs) (get_or xs i 0) in
    let greatest_is : greatest (take i xs ++ get_or xs i 0 ∷ []) ≡ most = omega arith in
    let place = first_place-stays (take i xs) (get_or xs i 0) within' in (
      sym (ap greatest more ∙ greatest_is),
      at ∙ ap (λ n. first_place n (take i xs)) is ∙ sym place ∙ ap (λ n. first_place n (take i xs ++ get_or xs i 0 ∷ [])) (sym is)
          ∙ ap (first_place most) (sym more),
    )
