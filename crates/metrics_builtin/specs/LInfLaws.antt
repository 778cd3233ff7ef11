-- Laws of the greatest difference: it is a metric on vectors.
use Rattle.std.proofs.Common.{◌≡◌, ℕ, suc, ◌+◌, ◌^◌, ◌<◌, ◌≤◌, max, List, [], ◌∷◌, length, get_or, drop, drop-cons, add-one, refl, sym, ap, ◌∙◌, arith}
use Rattle.std.specs.Prelude.{All}
use Rattle.std.specs.Int.{abs_diff}
use Rattle.std.proofs.Math.ListN.{drop_of_length-le}
use Rattle.std.proofs.lemmas.List.Elements.{All-tail}
use Rattle.metric_laws.specs.Laws.{IsMetric}
use Rattle.metrics_builtin.specs.Vectors.{components, IsVector, linf_dist}
use Rattle.metrics_builtin.specs.VectorLaws.{same_components, same_length, All-components-IsVector}

-- the difference of the first components, or the greatest of the rest
pub linf_dist-cons : (x y : ℕ) (xs ys : List ℕ) → linf_dist (x ∷ xs) (y ∷ ys) ≡ max (abs_diff x y) (linf_dist xs ys)
unfolding linf_dist
linf_dist-cons x y xs ys = refl

-- without components there is no difference
pub linf_dist-nil : (ys : List ℕ) → linf_dist [] ys ≡ 0
unfolding linf_dist
linf_dist-nil ys = refl

-- a step from component i on
pub linf_dist-drop : (xs ys : List ℕ) (i : ℕ) → i < length xs → i < length ys →
    linf_dist (drop i xs) (drop i ys) ≡ max (abs_diff (get_or xs i 0) (get_or ys i 0)) (linf_dist (drop (i + 1) xs) (drop (i + 1) ys))
linf_dist-drop xs ys i h k =
    rw (drop-cons xs i 0 h, drop-cons ys i 0 k, add-one i) (linf_dist-cons (get_or xs i 0) (get_or ys i 0) (drop (suc i) xs) (drop (suc i) ys))

-- nothing is left past the last component
pub linf_dist-end : (xs ys : List ℕ) (i : ℕ) → length xs ≤ i → linf_dist (drop i xs) (drop i ys) ≡ 0
linf_dist-end xs ys i h = ap (λ left. linf_dist left (drop i ys)) (drop_of_length-le xs h) ∙ linf_dist-nil (drop i ys)

-- a list is at distance 0 from itself
pub linf_dist-self : (xs : List ℕ) → linf_dist xs xs ≡ 0
linf_dist-self [] = linf_dist-nil []
linf_dist-self (x ∷ xs) = omega (arith, linf_dist-cons x x xs xs, linf_dist-self xs)

-- lists at distance 0 are equal
pub linf_dist-zero : (xs ys : List ℕ) → length xs ≡ length ys → linf_dist xs ys ≡ 0 → xs ≡ ys
linf_dist-zero [] [] e z = refl
linf_dist-zero [] (y ∷ ys) e z = absurd (omega arith)
linf_dist-zero (x ∷ xs) [] e z = absurd (omega arith)
linf_dist-zero (x ∷ xs) (y ∷ ys) e z =
    let first : x ≡ y = omega (arith, linf_dist-cons x y xs ys) in
    let rest : xs ≡ ys = linf_dist-zero xs ys (omega arith) (omega (arith, linf_dist-cons x y xs ys)) in
    cc

-- the distance is symmetric
pub linf_dist-comm : (xs ys : List ℕ) → length xs ≡ length ys → linf_dist xs ys ≡ linf_dist ys xs
linf_dist-comm [] [] e = refl
linf_dist-comm [] (y ∷ ys) e = absurd (omega arith)
linf_dist-comm (x ∷ xs) [] e = absurd (omega arith)
linf_dist-comm (x ∷ xs) (y ∷ ys) e =
    omega (arith, linf_dist-cons x y xs ys, linf_dist-cons y x ys xs, linf_dist-comm xs ys (omega arith))

-- the triangle inequality
pub linf_dist-triangle : (xs ys zs : List ℕ) → length xs ≡ length ys → length ys ≡ length zs →
    linf_dist xs zs ≤ linf_dist xs ys + linf_dist ys zs
linf_dist-triangle [] ys zs e f = omega (arith, linf_dist-nil zs)
linf_dist-triangle (x ∷ xs) [] zs e f = absurd (omega arith)
linf_dist-triangle (x ∷ xs) (y ∷ ys) [] e f = absurd (omega arith)
linf_dist-triangle (x ∷ xs) (y ∷ ys) (z ∷ zs) e f =
    omega (arith, linf_dist-cons x z xs zs, linf_dist-cons x y xs ys, linf_dist-cons y z ys zs, linf_dist-triangle xs ys zs (omega arith) (omega arith))

-- no component differs by more than `most`
pub linf_dist-le : (most : ℕ) (xs ys : List ℕ) → length xs ≡ length ys → All (λ x. x ≤ most) xs →
    All (λ y. y ≤ most) ys → linf_dist xs ys ≤ most
linf_dist-le most [] ys e g h = omega (arith, linf_dist-nil ys)
linf_dist-le most (x ∷ xs) [] e g h = absurd (omega arith)
linf_dist-le most (x ∷ xs) (y ∷ ys) e g h =
    let rest : linf_dist xs ys ≤ most = linf_dist-le most xs ys (omega arith) (All-tail (λ x. x ≤ most) x xs g) (All-tail (λ y. y ≤ most) y ys h) in
    let low : x ≤ most = g 0 0 (omega arith) in
    let other_low : y ≤ most = h 0 0 (omega arith) in
    omega (arith, linf_dist-cons x y xs ys)

-- the greatest difference is a metric on vectors
pub linf_metric : (dim most : ℕ) → most < 2 ^ 32 →
    IsMetric (IsVector dim most) (λ a b. linf_dist (components a) (components b)) most
linf_metric dim most small = record {
  distance = record {
    zero_iff_equal = λ a b v w. (
      λ z. same_components dim most a b small v w (linf_dist-zero (components a) (components b) (same_length dim most a b v w) z),
      λ e. ap (λ c. linf_dist (components a) (components c)) (sym e) ∙ linf_dist-self (components a),
    );
    symmetric = λ a b v w. linf_dist-comm (components a) (components b) (same_length dim most a b v w);
    triangle = λ a b c v w x. linf_dist-triangle (components a) (components b) (components c) (same_length dim most a b v w) (same_length dim most b c w x);
  };
  bounded = λ a b v w. linf_dist-le most (components a) (components b) (same_length dim most a b v w) (All-components-IsVector dim most a small v)
      (All-components-IsVector dim most b small w);
}
