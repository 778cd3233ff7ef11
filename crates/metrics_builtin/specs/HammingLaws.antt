-- Laws of the number of places that differ: it is a metric on strings.
use Rattle.std.proofs.Common.{◌≡◌, ℕ, suc, ◌+◌, ◌<◌, ◌≤◌, ◌==◌, cond, not, List, [], ◌∷◌, length, get_or, drop, drop-cons, add-one, refl, sym, ap, ◌∙◌, arith}
use Rattle.std.specs.List.{zip}
use Rattle.std.proofs.Math.ListN.{drop_of_length-le}
use Rattle.std.proofs.lemmas.Bool.Decides.{nat_tests}
use Rattle.std.proofs.lemmas.List.Sums.{sum_by-cons}
use Rattle.metric_laws.specs.Laws.{IsMetric}
use Rattle.metrics_builtin.specs.Strings.{IsString, hamming_dist}

-- 1 if the two differ
abbrev pub differs : ℕ → ℕ → ℕ
differs x y = cond (not (x == y)) 1 0

-- the first place, and the count for the rest
pub hamming_dist-cons : (x y : ℕ) (xs ys : List ℕ) → hamming_dist (x ∷ xs) (y ∷ ys) ≡ differs x y + hamming_dist xs ys
unfolding hamming_dist
hamming_dist-cons x y xs ys = sum_by-cons (λ p. cond (not (p.0 == p.1)) 1 0) (x, y) (zip xs ys)

-- without places there is no difference
pub hamming_dist-nil : (ys : List ℕ) → hamming_dist [] ys ≡ 0
unfolding hamming_dist
hamming_dist-nil ys = refl

-- a step of the count from place i on
pub hamming_dist-drop : (xs ys : List ℕ) (i : ℕ) → i < length xs → i < length ys →
    hamming_dist (drop i xs) (drop i ys) ≡ differs (get_or xs i 0) (get_or ys i 0) + hamming_dist (drop (i + 1) xs) (drop (i + 1) ys)
hamming_dist-drop xs ys i h k =
    rw (drop-cons xs i 0 h, drop-cons ys i 0 k, add-one i) (hamming_dist-cons (get_or xs i 0) (get_or ys i 0) (drop (suc i) xs) (drop (suc i) ys))

-- nothing is left past the last place
pub hamming_dist-end : (xs ys : List ℕ) (i : ℕ) → length xs ≤ i → hamming_dist (drop i xs) (drop i ys) ≡ 0
hamming_dist-end xs ys i h = ap (λ left. hamming_dist left (drop i ys)) (drop_of_length-le xs h) ∙ hamming_dist-nil (drop i ys)

-- one place

one_self : (x : ℕ) → differs x x ≡ 0
one_self x = grind (arith, nat_tests)

one_zero : (x y : ℕ) → differs x y ≡ 0 → x ≡ y
one_zero x y e = grind (arith, nat_tests)

one_comm : (x y : ℕ) → differs x y ≡ differs y x
one_comm x y = grind (arith, nat_tests)

one_triangle : (x y z : ℕ) → differs x z ≤ differs x y + differs y z
one_triangle x y z = grind (arith, nat_tests)

one_le : (x y : ℕ) → differs x y ≤ 1
one_le x y = grind (arith, nat_tests)

-- a string is at distance 0 from itself
pub hamming_dist-self : (xs : List ℕ) → hamming_dist xs xs ≡ 0
hamming_dist-self [] = hamming_dist-nil []
hamming_dist-self (x ∷ xs) = omega (arith, hamming_dist-cons x x xs xs, one_self x, hamming_dist-self xs)

-- strings at distance 0 are equal
pub hamming_dist-zero : (xs ys : List ℕ) → length xs ≡ length ys → hamming_dist xs ys ≡ 0 → xs ≡ ys
hamming_dist-zero [] [] e z = refl
hamming_dist-zero [] (y ∷ ys) e z = absurd (omega arith)
hamming_dist-zero (x ∷ xs) [] e z = absurd (omega arith)
hamming_dist-zero (x ∷ xs) (y ∷ ys) e z =
    let first : x ≡ y = one_zero x y (omega (arith, hamming_dist-cons x y xs ys)) in
    let rest : xs ≡ ys = hamming_dist-zero xs ys (omega arith) (omega (arith, hamming_dist-cons x y xs ys)) in
    cc

-- the distance is symmetric
pub hamming_dist-comm : (xs ys : List ℕ) → length xs ≡ length ys → hamming_dist xs ys ≡ hamming_dist ys xs
hamming_dist-comm [] [] e = refl
hamming_dist-comm [] (y ∷ ys) e = absurd (omega arith)
hamming_dist-comm (x ∷ xs) [] e = absurd (omega arith)
hamming_dist-comm (x ∷ xs) (y ∷ ys) e =
    omega (arith, hamming_dist-cons x y xs ys, hamming_dist-cons y x ys xs, one_comm x y, hamming_dist-comm xs ys (omega arith))

-- the triangle inequality
pub hamming_dist-triangle : (xs ys zs : List ℕ) → length xs ≡ length ys → length ys ≡ length zs →
    hamming_dist xs zs ≤ hamming_dist xs ys + hamming_dist ys zs
hamming_dist-triangle [] ys zs e f = omega (arith, hamming_dist-nil zs)
hamming_dist-triangle (x ∷ xs) [] zs e f = absurd (omega arith)
hamming_dist-triangle (x ∷ xs) (y ∷ ys) [] e f = absurd (omega arith)
hamming_dist-triangle (x ∷ xs) (y ∷ ys) (z ∷ zs) e f =
    omega (
      arith,
      hamming_dist-cons x z xs zs,
      hamming_dist-cons x y xs ys,
      hamming_dist-cons y z ys zs,
      one_triangle x y z,
      hamming_dist-triangle xs ys zs (omega arith) (omega arith),
    )

-- each place adds at most 1
pub hamming_dist-le : (xs ys : List ℕ) → length xs ≡ length ys → hamming_dist xs ys ≤ length xs
hamming_dist-le [] ys e = omega (arith, hamming_dist-nil ys)
hamming_dist-le (x ∷ xs) [] e = absurd (omega arith)
hamming_dist-le (x ∷ xs) (y ∷ ys) e =
    omega (arith, hamming_dist-cons x y xs ys, one_le x y, hamming_dist-le xs ys (omega arith))

-- strings of one length have as many places
same_size : (len : ℕ) (a b : List ℕ) → IsString len a → IsString len b → length a ≡ length b
same_size len a b v w = v.size ∙ sym w.size

-- the number of places that differ is a metric on strings
pub hamming_metric : (len : ℕ) → IsMetric (IsString len) hamming_dist len
hamming_metric len = record {
  distance = record {
    zero_iff_equal = λ a b v w. (
      hamming_dist-zero a b (same_size len a b v w),
      λ e. ap (hamming_dist a) (sym e) ∙ hamming_dist-self a,
    );
    symmetric = λ a b v w. hamming_dist-comm a b (same_size len a b v w);
    triangle = λ a b c v w x. hamming_dist-triangle a b c (same_size len a b v w) (same_size len b c w x);
  };
  bounded = λ a b v w. let size = v.size in omega (arith, hamming_dist-le a b (same_size len a b v w));
}
