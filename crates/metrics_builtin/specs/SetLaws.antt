-- Laws of the set difference: it is a metric on subsets. Each speaks of the elements that the sets
-- have.
use Rattle.std.proofs.Common.{◌≡◌, ℕ, zero, suc, ◌+◌, ◌-◌, ◌*◌, ◌^◌, ◌<◌, ◌≤◌, ◌==◌, inl, inr, Bool, true, false, ◌||◌, cond, min, List, [], ◌∷◌, length, get_or, drop, refl, sym, ap, subst, ◌∙◌, arith}
use Rattle.std.specs.Prelude.{All, count_by}
use Rattle.std.specs.List.{range_with_len}
use Rattle.std.specs.List.Sorted.{IsStrictlyIncreasing}
use Rattle.std.proofs.lemmas.Bool.{cases_eq, cases_lt}
use Rattle.std.proofs.lemmas.Bool.Decides.{nat_tests}
use Rattle.std.proofs.lemmas.List.{drop_more, drop_all, length-drop}
use Rattle.std.proofs.lemmas.List.Elements.{All-tail}
use Rattle.std.proofs.lemmas.List.Folds.{list_any_none}
use Rattle.std.proofs.lemmas.List.FromFn.{length-range_with_len}
use Rattle.std.proofs.lemmas.List.Sums.{sum_by-cons, count_by-le-length}
use Rattle.spb_edge.specs.Counts.{one_if}
use Rattle.metric_laws.specs.Laws.{IsMetric}
use Rattle.metrics_builtin.specs.Vectors.{components, object_of_components}
use Rattle.metrics_builtin.specs.VectorLaws.{components-object_of_components, length-object_of_components, object_of_components-components}
use Rattle.metrics_builtin.specs.Sets.{IsSubset, IsRisingWithin, is_element, exactly_one, set_dist}

-- ---- counts of numbers that pass a test

count-cons : (p : ℕ → Bool) (z : ℕ) (zs : List ℕ) → count_by p (z ∷ zs) ≡ one_if (p z) + count_by p zs
count-cons p z zs = sum_by-cons (λ x. cond (p x) 1 0) z zs

-- as many as two other tests together
count-sum : (p q r : ℕ → Bool) → ((z : ℕ) → one_if (p z) ≡ one_if (q z) + one_if (r z)) → (zs : List ℕ) → count_by p zs ≡ count_by q zs + count_by r zs
count-sum p q r h [] = refl
count-sum p q r h (z ∷ zs) = omega (arith, count-cons p z zs, count-cons q z zs, count-cons r z zs, h z, count-sum p q r h zs)

-- no more than two other tests together
count-le : (p q r : ℕ → Bool) → ((z : ℕ) → one_if (p z) ≤ one_if (q z) + one_if (r z)) → (zs : List ℕ) → count_by p zs ≤ count_by q zs + count_by r zs
count-le p q r h [] = omega arith
count-le p q r h (z ∷ zs) = omega (arith, count-cons p z zs, count-cons q z zs, count-cons r z zs, h z, count-le p q r h zs)

-- as many if the tests agree
count-same : (p q : ℕ → Bool) → ((z : ℕ) → p z ≡ q z) → (zs : List ℕ) → count_by p zs ≡ count_by q zs
count-same p q h [] = refl
count-same p q h (z ∷ zs) = omega (arith, count-cons p z zs, count-cons q z zs, ap one_if (h z), count-same p q h zs)

-- a number is in a range once or not at all

test_same : (x : ℕ) → one_if (x == x) ≡ 1
test_same x = grind (arith, nat_tests)

test_other : (x z : ℕ) → (x ≡ z → ⊥) → one_if (x == z) ≡ 0
test_other x z h = grind (arith, nat_tests)

count-past : (x a n : ℕ) → x < a → count_by (λ z. x == z) (range_with_len a n) ≡ 0
count-past x a zero h = refl
count-past x a (suc n) h =
    omega (arith, count-cons (λ z. x == z) a (range_with_len (a + 1) n), test_other x a (λ e. omega arith), count-past x (a + 1) n (omega arith))

count-here : (x a n : ℕ) → a ≤ x → x < a + n → count_by (λ z. x == z) (range_with_len a n) ≡ 1
count-here x a zero low high = absurd (omega arith)
count-here x a (suc n) low high = elim (cases_eq x a) [
  | inl e ↦
      let first : one_if (x == a) ≡ 1 = grind (arith, nat_tests) in
      omega (arith, count-cons (λ z. x == z) a (range_with_len (a + 1) n), first, count-past x (a + 1) n (omega arith))
  | inr other ↦
      omega (arith, count-cons (λ z. x == z) a (range_with_len (a + 1) n), test_other x a other, count-here x (a + 1) n (omega arith) (omega arith))
]

count-once : (x a n : ℕ) → count_by (λ z. x == z) (range_with_len a n) ≤ 1
count-once x a zero = omega arith
count-once x a (suc n) = elim (cases_eq x a) [
  | inl e ↦
      let first : one_if (x == a) ≤ 1 = grind (arith, nat_tests) in
      omega (arith, count-cons (λ z. x == z) a (range_with_len (a + 1) n), first, count-past x (a + 1) n (omega arith))
  | inr other ↦
      omega (arith, count-cons (λ z. x == z) a (range_with_len (a + 1) n), test_other x a other, count-once x (a + 1) n)
]

-- if none pass, each fails
none_passes : (p : ℕ → Bool) (a n z : ℕ) → count_by p (range_with_len a n) ≡ 0 → a ≤ z → z < a + n → one_if (p z) ≡ 0
none_passes p a zero z e low high = absurd (omega arith)
none_passes p a (suc n) z e low high = elim (cases_eq z a) [
  | inl same ↦ ap (λ k. one_if (p k)) same ∙ omega (arith, count-cons p a (range_with_len (a + 1) n))
  | inr other ↦ none_passes p (a + 1) n z (omega (arith, count-cons p a (range_with_len (a + 1) n))) (omega arith) (omega arith)
]

-- ---- the elements of a list

-- a number below all elements is none of them
pub is_element-below : (e : ℕ) (xs : List ℕ) → All (λ x. e < x) xs → is_element xs e ≡ false
is_element-below e xs h =
    list_any_none (λ x. x == e) xs (λ k d inside. let below : e < get_or xs k d = h k d inside in grind (arith, nat_tests))

-- a number past all elements is none of them
is_element-past : (e : ℕ) (xs : List ℕ) → All (λ x. x < e) xs → is_element xs e ≡ false
is_element-past e xs h =
    list_any_none (λ x. x == e) xs (λ k d inside. let below : get_or xs k d < e = h k d inside in grind (arith, nat_tests))

-- the first element
is_element-first : (x : ℕ) (xs : List ℕ) → is_element (x ∷ xs) x ≡ true
is_element-first x xs = let same : (x == x) ≡ true = grind (arith, nat_tests) in ap (λ b. b || is_element xs x) same

-- another number than the first
is_element-other : (x e : ℕ) (xs : List ℕ) → (x ≡ e → ⊥) → is_element (x ∷ xs) e ≡ is_element xs e
is_element-other x e xs other = let test : (x == e) ≡ false = grind (arith, nat_tests) in ap (λ b. b || is_element xs e) test

-- ---- ascending lists

pub rising-tail : (x : ℕ) (xs : List ℕ) → IsStrictlyIncreasing (x ∷ xs) → IsStrictlyIncreasing xs
rising-tail x xs h = λ k inside.
    let step : get_or (x ∷ xs) (suc k) 0 < get_or (x ∷ xs) (suc k + 1) 0 = h (suc k) (omega arith) in
    let next : suc k + 1 ≡ suc (k + 1) = omega arith in
    subst (λ j. get_or xs k 0 < get_or (x ∷ xs) j 0) next step

pub rising-drop : (xs : List ℕ) (i : ℕ) → IsStrictlyIncreasing xs → IsStrictlyIncreasing (drop i xs)
rising-drop xs zero h = h
rising-drop [] (suc i) h = h
rising-drop (x ∷ xs) (suc i) h = rising-drop xs i (rising-tail x xs h)

above_next : (x y : ℕ) (ys : List ℕ) → x < y → All (λ z. y < z) ys → All (λ z. x < z) (y ∷ ys)
above_next x y ys next rest zero d inside = next
above_next x y ys next rest (suc k) d inside = let above : y < get_or ys k d = rest k d (omega arith) in omega arith

pub within-drop : (universe : ℕ) (xs : List ℕ) (i : ℕ) → All (λ x. x < universe) xs → All (λ x. x < universe) (drop i xs)
within-drop universe xs zero h = h
within-drop universe [] (suc i) h = h
within-drop universe (x ∷ xs) (suc i) h = within-drop universe xs i (All-tail (λ k. k < universe) x xs h)

-- the first is below all others
pub rising-above : (x : ℕ) (xs : List ℕ) → IsStrictlyIncreasing (x ∷ xs) → All (λ y. x < y) xs
rising-above x [] h = λ k d inside. absurd (omega arith)
rising-above x (y ∷ ys) h =
    let next : x < y = h 0 (omega arith) in
    let rest : All (λ z. y < z) ys = rising-above y ys (rising-tail x (y ∷ ys) h) in
    λ k d inside. above_next x y ys next rest k d inside

-- ---- the difference

exactly_comm : (a b : Bool) → exactly_one a b ≡ exactly_one b a
exactly_comm true true = refl
exactly_comm true false = refl
exactly_comm false true = refl
exactly_comm false false = refl

exactly_triangle : (a b c : Bool) → one_if (exactly_one a c) ≤ one_if (exactly_one a b) + one_if (exactly_one b c)
exactly_triangle true true c = omega arith
exactly_triangle true false true = omega arith
exactly_triangle true false false = omega arith
exactly_triangle false true true = omega arith
exactly_triangle false true false = omega arith
exactly_triangle false false c = omega arith

exactly_le : (a b : Bool) → one_if (exactly_one a b) ≤ one_if a + one_if b
exactly_le true true = omega arith
exactly_le true false = omega arith
exactly_le false b = omega arith

exactly_self : (a : Bool) → exactly_one a a ≡ false
exactly_self true = refl
exactly_self false = refl

exactly_zero : (a b : Bool) → one_if (exactly_one a b) ≡ 0 → a ≡ b
exactly_zero true true e = refl
exactly_zero true false e = absurd (omega arith)
exactly_zero false true e = absurd (omega arith)
exactly_zero false false e = refl

-- the distance is symmetric
pub set_dist-comm : (universe : ℕ) (xs ys : List ℕ) → set_dist universe xs ys ≡ set_dist universe ys xs
unfolding set_dist
set_dist-comm universe xs ys =
    count-same (λ e. exactly_one (is_element xs e) (is_element ys e)) (λ e. exactly_one (is_element ys e) (is_element xs e))
    (λ e. exactly_comm (is_element xs e) (is_element ys e)) (range_with_len 0 universe)

-- the triangle inequality
pub set_dist-triangle : (universe : ℕ) (xs ys zs : List ℕ) → set_dist universe xs zs ≤ set_dist universe xs ys + set_dist universe ys zs
unfolding set_dist
set_dist-triangle universe xs ys zs =
    count-le (λ e. exactly_one (is_element xs e) (is_element zs e)) (λ e. exactly_one (is_element xs e) (is_element ys e))
    (λ e. exactly_one (is_element ys e) (is_element zs e))
    (λ e. exactly_triangle (is_element xs e) (is_element ys e) (is_element zs e)) (range_with_len 0 universe)

none_of : (zs : List ℕ) → count_by (λ e. false) zs ≡ 0
none_of [] = refl
none_of (z ∷ zs) = omega (arith, count-cons (λ e. false) z zs, none_of zs)

-- a set is at distance 0 from itself
pub set_dist-self : (universe : ℕ) (xs : List ℕ) → set_dist universe xs xs ≡ 0
unfolding set_dist
set_dist-self universe xs =
    count-same (λ e. exactly_one (is_element xs e) (is_element xs e)) (λ e. false) (λ e. exactly_self (is_element xs e)) (range_with_len 0 universe)
    ∙ none_of (range_with_len 0 universe)

one_or : (a b : Bool) → one_if (a || b) ≤ one_if a + one_if b
one_or true b = omega arith
one_or false b = omega arith

-- a list has no more elements than its length
few_elements : (universe : ℕ) (xs : List ℕ) → count_by (is_element xs) (range_with_len 0 universe) ≤ length xs
few_elements universe [] = omega (arith, none_of (range_with_len 0 universe))
few_elements universe (x ∷ xs) =
    omega (
      arith,
      count-le (is_element (x ∷ xs)) (λ z. x == z) (is_element xs) (λ z. one_or (x == z) (is_element xs z)) (range_with_len 0 universe),
      count-once x 0 universe,
      few_elements universe xs,
    )

-- no more elements differ than the two have
set_dist-le-lengths : (universe : ℕ) (xs ys : List ℕ) → set_dist universe xs ys ≤ length xs + length ys
unfolding set_dist
set_dist-le-lengths universe xs ys =
    omega (
      arith,
      count-le (λ e. exactly_one (is_element xs e) (is_element ys e)) (is_element xs) (is_element ys)
          (λ e. exactly_le (is_element xs e) (is_element ys e)) (range_with_len 0 universe),
      few_elements universe xs,
      few_elements universe ys,
    )

-- nor than the universe has
set_dist-le-universe : (universe : ℕ) (xs ys : List ℕ) → set_dist universe xs ys ≤ universe
unfolding set_dist
set_dist-le-universe universe xs ys =
    omega (arith, count_by-le-length (λ e. exactly_one (is_element xs e) (is_element ys e)) (range_with_len 0 universe), length-range_with_len 0 universe)

-- ---- equal sets

-- a first element below all of the other list is in one alone
alone : (x : ℕ) (xs ys : List ℕ) → All (λ z. x < z) ys → ((e : ℕ) → is_element (x ∷ xs) e ≡ is_element ys e) → ⊥
alone x xs ys above h = let none : is_element ys x ≡ false = is_element-below x ys above in cc (h x, is_element-first x xs)

first_differs : (x y : ℕ) (xs ys : List ℕ) → All (λ z. x < z) xs → All (λ z. y < z) ys → ((e : ℕ) → is_element (x ∷ xs) e ≡ is_element (y ∷ ys) e)
    → (x ≡ y → ⊥) → ⊥
first_differs x y xs ys above above_y h other = elim (cases_lt x y) [
  | inl low ↦ alone x xs (y ∷ ys) (above_next x y ys low above_y) h
  | inr high ↦ alone y ys (x ∷ xs) (above_next y x xs (omega arith) above) (λ e. sym (h e))
]

same_rest : (x y : ℕ) (xs ys : List ℕ) → x ≡ y → All (λ z. x < z) xs → All (λ z. y < z) ys → ((e : ℕ) → is_element (x ∷ xs) e ≡ is_element (y ∷ ys) e)
    → (e : ℕ) → is_element xs e ≡ is_element ys e
same_rest x y xs ys same above above_y h e = elim (cases_eq x e) [
  | inl here ↦
      let none : is_element xs x ≡ false = is_element-below x xs above in
      let none_y : is_element ys y ≡ false = is_element-below y ys above_y in
      ap (is_element xs) (sym here) ∙ none ∙ sym none_y ∙ ap (is_element ys) (sym same ∙ here)
  | inr other ↦ sym (is_element-other x e xs other) ∙ h e ∙ is_element-other y e ys (λ here. other (same ∙ here))
]

-- ascending lists with the same elements are equal
same_elements : (xs ys : List ℕ) → IsStrictlyIncreasing xs → IsStrictlyIncreasing ys → ((e : ℕ) → is_element xs e ≡ is_element ys e) → xs ≡ ys
same_elements [] [] r s h = refl
same_elements [] (y ∷ ys) r s h = absurd (cc (h y, is_element-first y ys))
same_elements (x ∷ xs) [] r s h = absurd (cc (h x, is_element-first x xs))
same_elements (x ∷ xs) (y ∷ ys) r s h =
    let above : All (λ z. x < z) xs = rising-above x xs r in
    let above_y : All (λ z. y < z) ys = rising-above y ys s in
    elim (cases_eq x y) [
      | inl e ↦
          let rest : xs ≡ ys = same_elements xs ys (rising-tail x xs r) (rising-tail y ys s) (λ z. same_rest x y xs ys e above above_y h z) in
          cc
      | inr other ↦ absurd (first_differs x y xs ys above above_y h other)
    ]

-- sets at distance 0 are equal
pub set_dist-zero : (universe : ℕ) (xs ys : List ℕ) → IsStrictlyIncreasing xs → IsStrictlyIncreasing ys →
    All (λ x. x < universe) xs → All (λ y. y < universe) ys → set_dist universe xs ys ≡ 0 → xs ≡ ys
unfolding set_dist
set_dist-zero universe xs ys r s v w z =
    same_elements xs ys r s (λ e. elim (cases_lt e universe) [
      | inl inside ↦ exactly_zero (is_element xs e) (is_element ys e)
          (none_passes (λ k. exactly_one (is_element xs k) (is_element ys k)) 0 universe e z (omega arith) (omega arith))
      | inr outside ↦
          is_element-past e xs (λ k d h. let below : get_or xs k d < universe = v k d h in omega arith)
          ∙ sym (is_element-past e ys (λ k d h. let below : get_or ys k d < universe = w k d h in omega arith))
    ])

-- ---- a step of a merge

one_more : (x : ℕ) (xs ys : List ℕ) → is_element xs x ≡ false → is_element ys x ≡ false → (z : ℕ) →
    one_if (exactly_one (is_element (x ∷ xs) z) (is_element ys z)) ≡ one_if (x == z) + one_if (exactly_one (is_element xs z) (is_element ys z))
one_more x xs ys none none_y z = elim (cases_eq x z) [
  | inl e ↦
      let first : (x == z) ≡ true = grind (arith, nat_tests) in
      let missing : is_element xs z ≡ false = ap (is_element xs) (sym e) ∙ none in
      let missing_y : is_element ys z ≡ false = ap (is_element ys) (sym e) ∙ none_y in
      rw (first, missing, missing_y) refl
  | inr other ↦
      omega (arith, ap (λ b. one_if (exactly_one b (is_element ys z))) (is_element-other x z xs other), test_other x z other)
]

-- an element that the rest of one list and the other list lack counts
pub set_dist-one : (universe x : ℕ) (xs ys : List ℕ) → x < universe → is_element xs x ≡ false → is_element ys x ≡ false →
    set_dist universe (x ∷ xs) ys ≡ 1 + set_dist universe xs ys
unfolding set_dist
set_dist-one universe x xs ys inside none none_y =
    omega (
      arith,
      count-sum (λ e. exactly_one (is_element (x ∷ xs) e) (is_element ys e)) (λ e. x == e) (λ e. exactly_one (is_element xs e) (is_element ys e))
          (one_more x xs ys none none_y) (range_with_len 0 universe),
      count-here x 0 universe (omega arith) (omega arith),
    )

-- an element of both lists counts nothing
pub set_dist-both : (universe x : ℕ) (xs ys : List ℕ) → is_element xs x ≡ false → is_element ys x ≡ false →
    set_dist universe (x ∷ xs) (x ∷ ys) ≡ set_dist universe xs ys
unfolding set_dist
set_dist-both universe x xs ys none none_y =
    count-same (λ e. exactly_one (is_element (x ∷ xs) e) (is_element (x ∷ ys) e)) (λ e. exactly_one (is_element xs e) (is_element ys e))
    (λ z. elim (cases_eq x z) [
      | inl e ↦
          let first : (x == z) ≡ true = grind (arith, nat_tests) in
          let missing : is_element xs z ≡ false = ap (is_element xs) (sym e) ∙ none in
          let missing_y : is_element ys z ≡ false = ap (is_element ys) (sym e) ∙ none_y in
          rw (first, missing, missing_y) refl
      | inr other ↦
          let first : (x == z) ≡ false = grind (arith, nat_tests) in
          rw first refl
    ]) (range_with_len 0 universe)

-- all elements of a set differ from no element
pub set_dist-nil : (universe : ℕ) (xs : List ℕ) → IsStrictlyIncreasing xs → All (λ x. x < universe) xs → set_dist universe xs [] ≡ length xs
set_dist-nil universe [] r v = set_dist-self universe []
set_dist-nil universe (x ∷ xs) r v =
    let below : x < universe = v 0 0 (omega arith) in
    omega (
      arith,
      set_dist-one universe x xs [] below (is_element-below x xs (rising-above x xs r)) refl,
      set_dist-nil universe xs (rising-tail x xs r) (All-tail (λ k. k < universe) x xs v),
    )

-- what is left of two lists, if the first number left of one is the lesser or both are equal
pub record Merges (universe i j : ℕ) (xs ys : List ℕ) : Type 0 where
  pub less : get_or xs i 0 < get_or ys j 0 → set_dist universe (drop i xs) (drop j ys) ≡ 1 + set_dist universe (drop (i + 1) xs) (drop j ys)
  pub greater : get_or ys j 0 < get_or xs i 0 → set_dist universe (drop i xs) (drop j ys) ≡ 1 + set_dist universe (drop i xs) (drop (j + 1) ys)
  pub equal : get_or xs i 0 ≡ get_or ys j 0 → set_dist universe (drop i xs) (drop j ys) ≡ set_dist universe (drop (i + 1) xs) (drop (j + 1) ys)

merges_cons : (universe x y : ℕ) (xs ys : List ℕ) → IsStrictlyIncreasing (x ∷ xs) → IsStrictlyIncreasing (y ∷ ys) → x < universe → y < universe
    → Merges universe 0 0 (x ∷ xs) (y ∷ ys)
merges_cons universe x y xs ys r s inside inside_y =
    let above : All (λ z. x < z) xs = rising-above x xs r in
    let above_y : All (λ z. y < z) ys = rising-above y ys s in
    record {
      less = λ low. set_dist-one universe x xs (y ∷ ys) inside (is_element-below x xs above) (is_element-below x (y ∷ ys) (above_next x y ys low above_y));
      greater = λ low.
          set_dist-comm universe (x ∷ xs) (y ∷ ys)
          ∙ set_dist-one universe y ys (x ∷ xs) inside_y (is_element-below y ys above_y) (is_element-below y (x ∷ xs) (above_next y x xs low above))
          ∙ ap (λ n. 1 + n) (set_dist-comm universe ys (x ∷ xs));
      equal = λ e. subst (λ z. set_dist universe (x ∷ xs) (z ∷ ys) ≡ set_dist universe xs ys) e
          (set_dist-both universe x xs ys (is_element-below x xs above) (is_element-below x ys (subst (λ z. All (λ k. z < k) ys) (sym e) above_y)));
    }

-- a step of a merge of ascending lists
pub merges : (universe i j : ℕ) (xs ys : List ℕ) → IsStrictlyIncreasing xs → IsStrictlyIncreasing ys → All (λ x. x < universe) xs → All (λ y. y < universe) ys →
    i < length xs → j < length ys → Merges universe i j xs ys
merges universe i j xs ys r s v w h k =
    let x = get_or xs i 0 in
    let y = get_or ys j 0 in
    let rest : drop i xs ≡ x ∷ drop (i + 1) xs = drop_more xs i 0 h in
    let rest_y : drop j ys ≡ y ∷ drop (j + 1) ys = drop_more ys j 0 k in
    let front = merges_cons universe x y (drop (i + 1) xs) (drop (j + 1) ys)
    (subst IsStrictlyIncreasing rest (rising-drop xs i r)) (subst IsStrictlyIncreasing rest_y (rising-drop ys j s)) (v i 0 h) (w j 0 k) in
    record {
      less = λ low. cc (rest, rest_y, front.less low);
      greater = λ low. cc (rest, rest_y, front.greater low);
      equal = λ e. cc (rest, rest_y, front.equal e);
    }

-- if one list is at its end, what is left of the other counts
pub merges_end : (universe i j : ℕ) (xs ys : List ℕ) → IsStrictlyIncreasing xs → IsStrictlyIncreasing ys → All (λ x. x < universe) xs
    → All (λ y. y < universe) ys →
    i ≤ length xs → j ≤ length ys → (i < length xs → j < length ys → ⊥) → set_dist universe (drop i xs) (drop j ys) + i + j ≡ length xs + length ys
merges_end universe i j xs ys r s v w h k end = elim (cases_lt i (length xs)) [
  | inl more ↦
      let none : drop j ys ≡ [] = drop_all j ys (omega arith) in
      let left : length (drop i xs) ≡ length xs - i = length-drop i xs in
      omega (arith, ap (set_dist universe (drop i xs)) none, set_dist-nil universe (drop i xs) (rising-drop xs i r) (within-drop universe xs i v))
  | inr all ↦
      let none : drop i xs ≡ [] = drop_all i xs all in
      let left : length (drop j ys) ≡ length ys - j = length-drop j ys in
      omega (
        arith,
        set_dist-comm universe (drop i xs) (drop j ys),
        ap (set_dist universe (drop j ys)) none,
        set_dist-nil universe (drop j ys) (rising-drop ys j s) (within-drop universe ys j w),
      )
]

-- ---- subsets

-- the elements of a subset are its components
pub components-IsSubset : (universe most : ℕ) (object : List ℕ) → universe < 2 ^ 32 → (v : IsSubset universe most object) → components object ≡ v.elements
components-IsSubset universe most object small v =
    ap components v.spelling ∙ components-object_of_components v.elements (λ k d h. let low : get_or v.elements k d < universe = v.set.within k d h in
    omega arith)

-- the components of a subset: ascending, within the universe, few
pub elements-IsSubset : (universe most : ℕ) (object : List ℕ) → universe < 2 ^ 32 → IsSubset universe most object
    → IsRisingWithin universe most (components object)
elements-IsSubset universe most object small v =
    subst (IsRisingWithin universe most) (sym (components-IsSubset universe most object small v)) v.set

-- a subset has four bytes for each element
pub length-IsSubset : (universe most : ℕ) (object : List ℕ) → (v : IsSubset universe most object) → length object ≡ 4 * length v.elements
length-IsSubset universe most object v = ap length v.spelling ∙ length-object_of_components v.elements

-- ascending components within the universe, and no byte besides, are a subset
pub IsSubset-components : (universe most : ℕ) (object : List ℕ) (n : ℕ) → length object ≡ 4 * n → ((i : ℕ) → get_or object i 0 < 256) →
    IsRisingWithin universe most (components object) → IsSubset universe most object
IsSubset-components universe most object n e bytes set = record {
  elements = components object;
  set = set;
  spelling = sym (object_of_components-components object n e bytes);
}

-- two subsets of the same elements are one object
same_subset : (universe most : ℕ) (a b : List ℕ) → universe < 2 ^ 32 → IsSubset universe most a → IsSubset universe most b → components a ≡ components b → a ≡ b
same_subset universe most a b small v w e =
    let elements : v.elements ≡ w.elements = sym (components-IsSubset universe most a small v) ∙ e ∙ components-IsSubset universe most b small w in
    v.spelling ∙ ap object_of_components elements ∙ sym w.spelling

-- the set difference is a metric on subsets
pub set_metric : (universe most : ℕ) → universe < 2 ^ 32 →
    IsMetric (IsSubset universe most) (λ a b. set_dist universe (components a) (components b)) (min universe (2 * most))
set_metric universe most small = record {
  distance = record {
    zero_iff_equal = λ a b v w.
        let of_a = elements-IsSubset universe most a small v in
        let of_b = elements-IsSubset universe most b small w in (
          λ z. same_subset universe most a b small v w (set_dist-zero universe (components a) (components b) of_a.rising of_b.rising of_a.within of_b.within z),
          λ e. ap (λ c. set_dist universe (components a) (components c)) (sym e) ∙ set_dist-self universe (components a),
        );
    symmetric = λ a b v w. set_dist-comm universe (components a) (components b);
    triangle = λ a b c v w x. set_dist-triangle universe (components a) (components b) (components c);
  };
  bounded = λ a b v w.
      let few_a : length (components a) ≤ most = (elements-IsSubset universe most a small v).few in
      let few_b : length (components b) ≤ most = (elements-IsSubset universe most b small w).few in
      omega (arith, set_dist-le-lengths universe (components a) (components b), set_dist-le-universe universe (components a) (components b));
}
