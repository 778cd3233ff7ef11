-- Laws of the free pages.
use Rattle.std.proofs.Common.{◌≡◌, ◌⊎◌, inl, inr, ℕ, zero, suc, ◌+◌, ◌≤◌, ◌<◌, ◌==◌, Bool, true, false, not, ◌&&◌, ◌||◌, List, [], ◌∷◌, ◌++◌, length, refl, sym, ap, subst, ◌∙◌, arith}
use Rattle.std.specs.Prelude.{IsTrue}
use Rattle.std.specs.List.{AllByRecursion, IsDistinct, list_any, range_with_len}
use Rattle.std.specs.List.Sorted.{IsPermutation}
use Rattle.std.specs.Set.{is_member}
use Rattle.std.proofs.lemmas.Bool.{cases_eq, and_parts, false≢true}
use Rattle.std.proofs.lemmas.Bool.Decides.{nat_tests}
use Rattle.std.proofs.lemmas.Cmp.{nat_eq_equiv}
use Rattle.std.proofs.lemmas.List.{append-nil, length-append}
use Rattle.std.proofs.lemmas.List.FromFn.{length-range_with_len}
use Rattle.std.proofs.lemmas.List.Sorted.{IsPermutation-middle}
use Rattle.std.proofs.lemmas.Map.Keys.{IsDistinct-push}
use Rattle.std.proofs.lemmas.Map.Made.{length-le_from_is_member}
use Rattle.page_laws.specs.Pages.{is_among, is_live, AreFree}

-- ---- lists

all_front : (P : ℕ → Type 0) (xs ys : List ℕ) → AllByRecursion P (xs ++ ys) → AllByRecursion P xs
all_front P [] ys all = tt
all_front P (x ∷ xs) ys all = (all.0, all_front P xs ys all.1)

all_pushed : (P : ℕ → Type 0) (xs : List ℕ) (y : ℕ) → AllByRecursion P xs → P y → AllByRecursion P (xs ++ y ∷ [])
all_pushed P [] y all is = (is, tt)
all_pushed P (x ∷ xs) y all is = (all.0, all_pushed P xs y all.1 is)

all_weaker : (P Q : ℕ → Type 0) (xs : List ℕ) → ((n : ℕ) → P n → Q n) → AllByRecursion P xs → AllByRecursion Q xs
all_weaker P Q [] weaker all = tt
all_weaker P Q (x ∷ xs) weaker all = (weaker x all.0, all_weaker P Q xs weaker all.1)

distinct_front : (xs ys : List ℕ) → IsDistinct (λ a b. a == b) (xs ++ ys) → IsDistinct (λ a b. a == b) xs
unfolding IsDistinct
distinct_front [] ys distinct = tt
distinct_front (x ∷ xs) ys distinct = (all_front (λ y. (x == y) ≡ false) xs ys distinct.0, distinct_front xs ys distinct.1)

turned : (n : ℕ) (xs : List ℕ) → is_among n xs ≡ is_member (λ a b. a == b) xs n
turned n [] = refl
turned n (x ∷ xs) = ap (λ b. b || is_among n xs) (nat_eq_equiv.symm x n) ∙ ap (λ b. (n == x) || b) (turned n xs)

not_true : (b : Bool) → not b ≡ true → b ≡ false
not_true true is = absurd (false≢true is)
not_true false is = refl

-- what holds of all items holds of one of them
pub among_all : (P : ℕ → Type 0) (n : ℕ) (xs : List ℕ) → AllByRecursion P xs → is_among n xs ≡ true → P n
among_all P n [] all is = absurd (false≢true is)
among_all P n (x ∷ xs) all is = elim (cases_eq x n) [
  | inl same ↦ subst P same all.0
  | inr other ↦ among_all P n xs all.1 (grind (arith, nat_tests, other, is))
]

all_range : (P : ℕ → Type 0) (from count : ℕ) → ((n : ℕ) → from ≤ n → n < from + count → P n) → AllByRecursion P (range_with_len from count)
all_range P from zero each = tt
all_range P from (suc count) each = (
  each from (omega arith) (omega arith),
  all_range P (from + 1) count (λ n least below. each n (omega (arith, least)) (omega (arith, below))),
)

distinct_range : (from count : ℕ) → IsDistinct (λ a b. a == b) (range_with_len from count)
unfolding IsDistinct
distinct_range from zero = tt
distinct_range from (suc count) = (
  all_range (λ n. (from == n) ≡ false) (from + 1) count (λ n least below. grind (arith, nat_tests, least)),
  distinct_range (from + 1) count,
)

range_has : (from count n : ℕ) → from ≤ n → n < from + count → is_among n (range_with_len from count) ≡ true
range_has from zero n least below = absurd (omega (arith, least, below))
range_has from (suc count) n least below = elim (cases_eq from n) [
  | inl same ↦ grind (arith, nat_tests, same)
  | inr other ↦ grind (arith, nat_tests, range_has (from + 1) count n (omega (arith, least, other)) (omega (arith, below)))
]

-- ---- free pages

-- the last one is taken
pub taken_free : (in_pool : ℕ → Bool) (free : List ℕ) (n : ℕ) → AreFree in_pool (free ++ n ∷ []) → AreFree in_pool free
taken_free in_pool free n are = record { pool = all_front _ free (n ∷ []) are.pool; distinct = distinct_front free (n ∷ []) are.distinct }

last_all : (P : ℕ → Type 0) (xs : List ℕ) (y : ℕ) → AllByRecursion P (xs ++ y ∷ []) → P y
last_all P [] y all = all.0
last_all P (x ∷ xs) y all = last_all P xs y all.1

pub last_free : (in_pool : ℕ → Bool) (free : List ℕ) (n : ℕ) → AreFree in_pool (free ++ n ∷ []) → IsTrue (in_pool n)
last_free in_pool free n are = last_all (λ m. IsTrue (in_pool m)) free n are.pool

-- a live one is given back
pub given_free : (in_pool : ℕ → Bool) (free : List ℕ) (n : ℕ) → AreFree in_pool free → IsTrue (is_live in_pool free n) → AreFree in_pool (free ++ n ∷ [])
given_free in_pool free n are live =
    let parts = and_parts (in_pool n) (not (is_among n free)) live in
    record {
      pool = all_pushed _ free n are.pool parts.0;
      distinct = IsDistinct-push nat_eq_equiv free n are.distinct (sym (turned n free) ∙ not_true (is_among n free) parts.1);
    }

-- all of a range
pub range_free : (in_pool : ℕ → Bool) (from count : ℕ) → ((n : ℕ) → from ≤ n → n < from + count → IsTrue (in_pool n))
    → AreFree in_pool (range_with_len from count)
range_free in_pool from count pool = record { pool = all_range _ from count pool; distinct = distinct_range from count }

-- there are no more of them than the pool has
pub free_fits : (in_pool : ℕ → Bool) (from count : ℕ) (free : List ℕ) → ((n : ℕ) → IsTrue (in_pool n) → (from ≤ n) × (n < from + count)) → AreFree in_pool free
    → length free ≤ count
free_fits in_pool from count free within are =
    subst (λ n. length free ≤ n) (length-range_with_len from count)
    (length-le_from_is_member nat_eq_equiv free (range_with_len from count) are.distinct (λ n is.
    let inside = within n (among_all (λ m. IsTrue (in_pool m)) n free are.pool (turned n free ∙ is)) in
    sym (turned n (range_with_len from count)) ∙ range_has from count n inside.0 inside.1))

-- and one fewer if another one is given back
pub given_fits : (in_pool : ℕ → Bool) (from count : ℕ) (free : List ℕ) (n : ℕ) → ((m : ℕ) → IsTrue (in_pool m) → (from ≤ m) × (m < from + count))
    → AreFree in_pool free → IsTrue (is_live in_pool free n) → length free < count
given_fits in_pool from count free n within are live =
    let fits : length (free ++ n ∷ []) ≤ count = free_fits in_pool from count (free ++ n ∷ []) within (given_free in_pool free n are live) in
    omega (arith, fits, length-append free (n ∷ []))

-- the last item, and the others
pub last_first : (xs : List ℕ) (x : ℕ) → IsPermutation (xs ++ x ∷ []) (x ∷ xs)
last_first xs x = subst (λ ys. IsPermutation (xs ++ x ∷ []) (x ∷ ys)) (append-nil xs) (IsPermutation-middle xs x [])
