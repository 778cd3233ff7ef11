-- Laws of the weighted distance: it is a metric on strings with a byte for each weight.
use Rattle.std.proofs.Common.{◌≡◌, ℕ, suc, ◌+◌, ◌<◌, ◌≤◌, ◌==◌, cond, not, List, [], ◌∷◌, length, get_or, drop, drop-cons, add-one, refl, sym, ap, ◌∙◌, arith}
use Rattle.std.specs.Prelude.{All, sum}
use Rattle.std.specs.List.{zip}
use Rattle.std.proofs.Math.ListN.{drop_of_length-le}
use Rattle.std.proofs.lemmas.Bool.Decides.{nat_tests}
use Rattle.std.proofs.lemmas.List.Elements.{All-tail}
use Rattle.std.proofs.lemmas.List.Sums.{sum_by-cons}
use Rattle.metric_laws.specs.Laws.{IsMetric}
use Rattle.metrics_builtin.specs.Strings.{IsString}
use Rattle.weighted_hamming.specs.Weighted.{AreWeights, weighted_dist}

-- the weight where the two differ
abbrev pub added : ℕ → ℕ → ℕ → ℕ
added w x y = cond (not (x == y)) w 0

-- the first place, and the sum for the rest
pub weighted_dist-cons : (w x y : ℕ) (ws xs ys : List ℕ) → weighted_dist (w ∷ ws) (x ∷ xs) (y ∷ ys) ≡ added w x y + weighted_dist ws xs ys
unfolding weighted_dist
weighted_dist-cons w x y ws xs ys = sum_by-cons (λ p. cond (not (p.1.0 == p.1.1)) p.0 0) (w, (x, y)) (zip ws (zip xs ys))

-- without places there is no difference
pub weighted_dist-nil : (xs ys : List ℕ) → weighted_dist [] xs ys ≡ 0
unfolding weighted_dist
weighted_dist-nil xs ys = refl

-- a step of the sum from place i on
pub weighted_dist-drop : (ws xs ys : List ℕ) (i : ℕ) → i < length ws → i < length xs → i < length ys →
    weighted_dist (drop i ws) (drop i xs) (drop i ys)
    ≡ added (get_or ws i 0) (get_or xs i 0) (get_or ys i 0) + weighted_dist (drop (i + 1) ws) (drop (i + 1) xs) (drop (i + 1) ys)
weighted_dist-drop ws xs ys i g h k =
    rw (drop-cons ws i 0 g, drop-cons xs i 0 h, drop-cons ys i 0 k, add-one i)
    (weighted_dist-cons (get_or ws i 0) (get_or xs i 0) (get_or ys i 0) (drop (suc i) ws) (drop (suc i) xs) (drop (suc i) ys))

-- nothing is left past the last place
pub weighted_dist-end : (ws xs ys : List ℕ) (i : ℕ) → length ws ≤ i → weighted_dist (drop i ws) (drop i xs) (drop i ys) ≡ 0
weighted_dist-end ws xs ys i h =
    ap (λ left. weighted_dist left (drop i xs) (drop i ys)) (drop_of_length-le ws h) ∙ weighted_dist-nil (drop i xs) (drop i ys)

-- one place

added_self : (w x : ℕ) → added w x x ≡ 0
added_self w x = grind (arith, nat_tests)

added_zero : (w x y : ℕ) → 1 ≤ w → added w x y ≡ 0 → x ≡ y
added_zero w x y h e = grind (arith, nat_tests)

added_comm : (w x y : ℕ) → added w x y ≡ added w y x
added_comm w x y = grind (arith, nat_tests)

added_triangle : (w x y z : ℕ) → added w x z ≤ added w x y + added w y z
added_triangle w x y z = grind (arith, nat_tests)

added_le : (w x y : ℕ) → added w x y ≤ w
added_le w x y = grind (arith, nat_tests)

-- what equal places and others add

pub added-same : (w x y : ℕ) → x ≡ y → added w x y ≡ 0
added-same w x y e = grind (arith, nat_tests)

pub added-apart : (w x y : ℕ) → (x ≡ y → ⊥) → added w x y ≡ w
added-apart w x y e = grind (arith, nat_tests)

-- a string differs from itself nowhere
pub weighted_dist-self : (ws xs : List ℕ) → length xs ≡ length ws → weighted_dist ws xs xs ≡ 0
weighted_dist-self [] xs e = weighted_dist-nil xs xs
weighted_dist-self (w ∷ ws) [] e = absurd (omega arith)
weighted_dist-self (w ∷ ws) (x ∷ xs) e =
    omega (arith, weighted_dist-cons w x x ws xs xs, added_self w x, weighted_dist-self ws xs (omega arith))

-- strings that differ nowhere are equal
pub weighted_dist-zero : (ws xs ys : List ℕ) → All (λ w. 1 ≤ w) ws → length xs ≡ length ws → length ys ≡ length ws → weighted_dist ws xs ys ≡ 0 → xs ≡ ys
weighted_dist-zero [] [] [] p e f z = refl
weighted_dist-zero [] (x ∷ xs) ys p e f z = absurd (omega arith)
weighted_dist-zero [] [] (y ∷ ys) p e f z = absurd (omega arith)
weighted_dist-zero (w ∷ ws) [] ys p e f z = absurd (omega arith)
weighted_dist-zero (w ∷ ws) (x ∷ xs) [] p e f z = absurd (omega arith)
weighted_dist-zero (w ∷ ws) (x ∷ xs) (y ∷ ys) p e f z =
    let first : x ≡ y = added_zero w x y (p 0 0 (omega arith)) (omega (arith, weighted_dist-cons w x y ws xs ys)) in
    let rest : xs ≡ ys = weighted_dist-zero ws xs ys (All-tail (λ w. 1 ≤ w) w ws p) (omega arith) (omega arith)
    (omega (arith, weighted_dist-cons w x y ws xs ys)) in
    cc

-- there and back are as far
pub weighted_dist-comm : (ws xs ys : List ℕ) → length xs ≡ length ws → length ys ≡ length ws → weighted_dist ws xs ys ≡ weighted_dist ws ys xs
weighted_dist-comm [] xs ys e f = weighted_dist-nil xs ys ∙ sym (weighted_dist-nil ys xs)
weighted_dist-comm (w ∷ ws) [] ys e f = absurd (omega arith)
weighted_dist-comm (w ∷ ws) (x ∷ xs) [] e f = absurd (omega arith)
weighted_dist-comm (w ∷ ws) (x ∷ xs) (y ∷ ys) e f =
    omega (
      arith,
      weighted_dist-cons w x y ws xs ys,
      weighted_dist-cons w y x ws ys xs,
      added_comm w x y,
      weighted_dist-comm ws xs ys (omega arith) (omega arith),
    )

-- a way round is never shorter
pub weighted_dist-triangle : (ws xs ys zs : List ℕ) → length xs ≡ length ws → length ys ≡ length ws → length zs ≡ length ws →
    weighted_dist ws xs zs ≤ weighted_dist ws xs ys + weighted_dist ws ys zs
weighted_dist-triangle [] xs ys zs e f g = omega (arith, weighted_dist-nil xs zs)
weighted_dist-triangle (w ∷ ws) [] ys zs e f g = absurd (omega arith)
weighted_dist-triangle (w ∷ ws) (x ∷ xs) [] zs e f g = absurd (omega arith)
weighted_dist-triangle (w ∷ ws) (x ∷ xs) (y ∷ ys) [] e f g = absurd (omega arith)
weighted_dist-triangle (w ∷ ws) (x ∷ xs) (y ∷ ys) (z ∷ zs) e f g =
    omega (
      arith,
      weighted_dist-cons w x z ws xs zs,
      weighted_dist-cons w x y ws xs ys,
      weighted_dist-cons w y z ws ys zs,
      added_triangle w x y z,
      weighted_dist-triangle ws xs ys zs (omega arith) (omega arith) (omega arith),
    )

-- each place adds its weight at most
pub weighted_dist-le : (ws xs ys : List ℕ) → length xs ≡ length ws → length ys ≡ length ws → weighted_dist ws xs ys ≤ sum ws
weighted_dist-le [] xs ys e f = omega (arith, weighted_dist-nil xs ys)
weighted_dist-le (w ∷ ws) [] ys e f = absurd (omega arith)
weighted_dist-le (w ∷ ws) (x ∷ xs) [] e f = absurd (omega arith)
weighted_dist-le (w ∷ ws) (x ∷ xs) (y ∷ ys) e f =
    omega (arith, weighted_dist-cons w x y ws xs ys, sum_by-cons (λ x. x) w ws, added_le w x y, weighted_dist-le ws xs ys (omega arith) (omega arith))

-- the weighted distance is a metric on strings, and the sum of the weights bounds it
pub weighted_metric : (ws : List ℕ) → AreWeights ws → IsMetric (IsString (length ws)) (weighted_dist ws) (sum ws)
weighted_metric ws v = record {
  distance = record {
    zero_iff_equal = λ a b p q. (
      weighted_dist-zero ws a b v.positive p.size q.size,
      λ e. ap (weighted_dist ws a) (sym e) ∙ weighted_dist-self ws a p.size,
    );
    symmetric = λ a b p q. weighted_dist-comm ws a b p.size q.size;
    triangle = λ a b c p q r. weighted_dist-triangle ws a b c p.size q.size r.size;
  };
  bounded = λ a b p q. weighted_dist-le ws a b p.size q.size;
}
