-- Laws of the sum of differences: it is a metric on vectors.
use Rattle.std.proofs.Common.{◌≡◌, ℕ, suc, ◌+◌, ◌*◌, ◌^◌, ◌<◌, ◌≤◌, List, [], ◌∷◌, length, get_or, drop, drop-cons, add-one, refl, sym, ap, subst, ◌∙◌, arith}
use Rattle.std.specs.Prelude.{All}
use Rattle.std.specs.Int.{abs_diff}
use Rattle.std.specs.List.{zip}
use Rattle.std.proofs.Math.ListN.{drop_of_length-le}
use Rattle.std.proofs.Math.Nat.{suc-mul}
use Rattle.std.proofs.lemmas.List.Elements.{All-tail}
use Rattle.std.proofs.lemmas.List.Sums.{sum_by-cons}
use Rattle.metric_laws.specs.Laws.{IsMetric}
use Rattle.metrics_builtin.specs.Vectors.{components, IsVector, l1_dist}
use Rattle.metrics_builtin.specs.VectorLaws.{same_components, same_length, length-components-IsVector, All-components-IsVector}

-- the difference of the first components, and the sum for the rest
pub l1_dist-cons : (x y : ℕ) (xs ys : List ℕ) → l1_dist (x ∷ xs) (y ∷ ys) ≡ abs_diff x y + l1_dist xs ys
unfolding l1_dist
l1_dist-cons x y xs ys = sum_by-cons (λ p. abs_diff p.0 p.1) (x, y) (zip xs ys)

-- without components there is no difference
pub l1_dist-nil : (ys : List ℕ) → l1_dist [] ys ≡ 0
unfolding l1_dist
l1_dist-nil ys = refl

-- a step of the sum from component i on
pub l1_dist-drop : (xs ys : List ℕ) (i : ℕ) → i < length xs → i < length ys →
    l1_dist (drop i xs) (drop i ys) ≡ abs_diff (get_or xs i 0) (get_or ys i 0) + l1_dist (drop (i + 1) xs) (drop (i + 1) ys)
l1_dist-drop xs ys i h k =
    rw (drop-cons xs i 0 h, drop-cons ys i 0 k, add-one i) (l1_dist-cons (get_or xs i 0) (get_or ys i 0) (drop (suc i) xs) (drop (suc i) ys))

-- nothing is left past the last component
pub l1_dist-end : (xs ys : List ℕ) (i : ℕ) → length xs ≤ i → l1_dist (drop i xs) (drop i ys) ≡ 0
l1_dist-end xs ys i h = ap (λ left. l1_dist left (drop i ys)) (drop_of_length-le xs h) ∙ l1_dist-nil (drop i ys)

-- a list is at distance 0 from itself
pub l1_dist-self : (xs : List ℕ) → l1_dist xs xs ≡ 0
l1_dist-self [] = l1_dist-nil []
l1_dist-self (x ∷ xs) = omega (arith, l1_dist-cons x x xs xs, l1_dist-self xs)

-- lists at distance 0 are equal
pub l1_dist-zero : (xs ys : List ℕ) → length xs ≡ length ys → l1_dist xs ys ≡ 0 → xs ≡ ys
l1_dist-zero [] [] e z = refl
l1_dist-zero [] (y ∷ ys) e z = absurd (omega arith)
l1_dist-zero (x ∷ xs) [] e z = absurd (omega arith)
l1_dist-zero (x ∷ xs) (y ∷ ys) e z =
    let first : x ≡ y = omega (arith, l1_dist-cons x y xs ys) in
    let rest : xs ≡ ys = l1_dist-zero xs ys (omega arith) (omega (arith, l1_dist-cons x y xs ys)) in
    cc

-- the distance is symmetric
pub l1_dist-comm : (xs ys : List ℕ) → length xs ≡ length ys → l1_dist xs ys ≡ l1_dist ys xs
l1_dist-comm [] [] e = refl
l1_dist-comm [] (y ∷ ys) e = absurd (omega arith)
l1_dist-comm (x ∷ xs) [] e = absurd (omega arith)
l1_dist-comm (x ∷ xs) (y ∷ ys) e =
    omega (arith, l1_dist-cons x y xs ys, l1_dist-cons y x ys xs, l1_dist-comm xs ys (omega arith))

-- the triangle inequality
pub l1_dist-triangle : (xs ys zs : List ℕ) → length xs ≡ length ys → length ys ≡ length zs →
    l1_dist xs zs ≤ l1_dist xs ys + l1_dist ys zs
l1_dist-triangle [] ys zs e f = omega (arith, l1_dist-nil zs)
l1_dist-triangle (x ∷ xs) [] zs e f = absurd (omega arith)
l1_dist-triangle (x ∷ xs) (y ∷ ys) [] e f = absurd (omega arith)
l1_dist-triangle (x ∷ xs) (y ∷ ys) (z ∷ zs) e f =
    omega (arith, l1_dist-cons x z xs zs, l1_dist-cons x y xs ys, l1_dist-cons y z ys zs, l1_dist-triangle xs ys zs (omega arith) (omega arith))

-- each component adds at most `most`
pub l1_dist-le : (most : ℕ) (xs ys : List ℕ) → length xs ≡ length ys → All (λ x. x ≤ most) xs →
    All (λ y. y ≤ most) ys → l1_dist xs ys ≤ length xs * most
l1_dist-le most [] ys e g h = omega (arith, l1_dist-nil ys)
l1_dist-le most (x ∷ xs) [] e g h = absurd (omega arith)
l1_dist-le most (x ∷ xs) (y ∷ ys) e g h =
    let rest : l1_dist xs ys ≤ length xs * most = l1_dist-le most xs ys (omega arith) (All-tail (λ x. x ≤ most) x xs g) (All-tail (λ y. y ≤ most) y ys h) in
    let low : x ≤ most = g 0 0 (omega arith) in
    let other_low : y ≤ most = h 0 0 (omega arith) in
    omega (arith, l1_dist-cons x y xs ys, suc-mul (length xs) most)

-- the distance of two vectors is at most that of the farthest corners
pub l1_dist-bounded : (dim most : ℕ) (a b : List ℕ) → most < 2 ^ 32 → IsVector dim most a →
    IsVector dim most b → l1_dist (components a) (components b) ≤ dim * most
l1_dist-bounded dim most a b small v w =
    subst (λ n. l1_dist (components a) (components b) ≤ n * most) (length-components-IsVector dim most a v)
    (l1_dist-le most (components a) (components b) (same_length dim most a b v w) (All-components-IsVector dim most a small v)
    (All-components-IsVector dim most b small w))

-- the sum of differences is a metric on vectors
pub l1_metric : (dim most : ℕ) → most < 2 ^ 32 →
    IsMetric (IsVector dim most) (λ a b. l1_dist (components a) (components b)) (dim * most)
l1_metric dim most small = record {
  distance = record {
    zero_iff_equal = λ a b v w. (
      λ z. same_components dim most a b small v w (l1_dist-zero (components a) (components b) (same_length dim most a b v w) z),
      λ e. ap (λ c. l1_dist (components a) (components c)) (sym e) ∙ l1_dist-self (components a),
    );
    symmetric = λ a b v w. l1_dist-comm (components a) (components b) (same_length dim most a b v w);
    triangle = λ a b c v w x. l1_dist-triangle (components a) (components b) (components c) (same_length dim most a b v w) (same_length dim most b c w x);
  };
  bounded = λ a b v w. l1_dist-bounded dim most a b small v w;
}
