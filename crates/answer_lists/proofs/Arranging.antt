-- What a sort of ids and of ranks gives. How often a list has a rank.
use Rattle.std.proofs.Common.{◌≡◌, ℕ, ◌+◌, ◌==◌, Bool, true, false, not, ◌&&◌, ◌||◌, cond, List, [], ◌∷◌, get_or, refl, sym, ap, ◌∙◌, arith}
use Rattle.std.specs.Prelude.{nat_lt, if◌then◌else◌, count_by}
use Rattle.std.specs.List.{AllByRecursion}
use Rattle.std.specs.List.Sorted.{IsPermutation, IsSorted, ties}
use Rattle.std.specs.Ordering.{is_lt, nat_cmp, ordering_then}
use Rattle.std.specs.declared.cmp.Ordering.TheVariants.{Less, Equal, Greater}
use Rattle.std.proofs.lemmas.List.Sums.{sum_by-cons}
use Rattle.std.proofs.lemmas.Bool.Decides.{nat_tests}
use Rattle.answer_lists.specs.Order.{goes_before, sorted_by}
use Rattle.answer_lists.specs.OrderLaws as laws
use Rattle.spb_edge.specs.Counts.{one_if}
pub use Rattle.answer_lists.specs.OrderLaws.{Pair, goes_before-is}

-- ---- ids

is_lt-number : (lt eq : Bool) → is_lt (cond lt Less (cond eq Equal Greater)) ≡ lt
is_lt-number true eq = refl
is_lt-number false true = refl
is_lt-number false false = refl

nat_lt-is : (a b : ℕ) → is_lt (nat_cmp a b) ≡ nat_lt a b
nat_lt-is a b = is_lt-number (nat_lt a b) (a == b)

pub ids-from_sort : (xs ys : List ℕ) → IsPermutation xs ys → IsSorted nat_cmp ys → ys ≡ sorted_by nat_lt xs
ids-from_sort xs ys moved sorted =
    laws.sorted_by-from_sort nat_lt laws.nat_order xs ys moved (λ k d low inside. sym (nat_lt-is (get_or ys (k + 1) d) (get_or ys k d)) ∙ sorted k d low inside)

-- ---- ranks

pub sorted_by-from_sort : (xs ys : List Pair) → IsPermutation xs ys → IsSorted (λ (a b : Pair). ordering_then (nat_cmp a.0 b.0) (nat_cmp a.1 b.1)) ys
    → ys ≡ sorted_by goes_before xs
sorted_by-from_sort xs ys moved sorted = laws.sorted_by-from_sort goes_before laws.pair_order xs ys moved sorted

abbrev pub InOrder : List Pair → Type 0
InOrder xs = laws.IsInOrder goes_before xs

abbrev pub times : Pair → List Pair → ℕ
times p xs = count_by (λ q. (p.0 == q.0) && (p.1 == q.1)) xs

pub times-cons : (p q : Pair) (qs : List Pair) → times p (q ∷ qs) ≡ one_if ((p.0 == q.0) && (p.1 == q.1)) + times p qs
times-cons p q qs = sum_by-cons _ q qs

tied_if : (a b c d : ℕ) → (not (nat_lt a c || ((a == c) && nat_lt b d)) && not (nat_lt c a || ((c == a) && nat_lt d b))) ≡ ((a == c) && (b == d))
tied_if a b c d = grind (arith, nat_tests)

-- two ranks tie if both parts are the same
ties-is : (p q : Pair) → ties goes_before p q ≡ ((p.0 == q.0) && (p.1 == q.1))
ties-is p q = rw (goes_before-is p q, goes_before-is q p) (tied_if p.0 p.1 q.0 q.1)

counted : (p q : Pair → Bool) → ((z : Pair) → p z ≡ q z) → (zs : List Pair) → count_by p zs ≡ count_by q zs
counted p q h [] = refl
counted p q h (z ∷ zs) =
    let a = sum_by-cons (λ x. cond (p x) 1 0) z zs in
    let b = sum_by-cons (λ x. cond (q x) 1 0) z zs in
    let c = ap one_if (h z) in
    let d = counted p q h zs in omega (arith, a, b, c, d)

-- two lists in order that have each rank equally often are one
pub one_list : (xs ys : List Pair) → InOrder xs → InOrder ys → ((p : Pair) → times p xs ≡ times p ys) → xs ≡ ys
one_list xs ys a b equal = laws.one_list goes_before laws.pair_order xs ys a b (λ p. counted _ _ (ties-is p) xs ∙ equal p ∙ sym (counted _ _ (ties-is p) ys))

pub in_order-sorted_by : (xs : List Pair) → InOrder (sorted_by goes_before xs)
in_order-sorted_by xs = laws.in_order-sorted_by goes_before (laws.weak goes_before laws.pair_order) xs

pub all-sorted_by : (P : Pair → Type 0) (xs : List Pair) → AllByRecursion P xs → AllByRecursion P (sorted_by goes_before xs)
all-sorted_by P xs all = laws.all-sorted_by goes_before P xs all

pub times-sorted_by : (p : Pair) (xs : List Pair) → times p (sorted_by goes_before xs) ≡ times p xs
times-sorted_by p xs = laws.sorted_by-count goes_before (λ q. (p.0 == q.0) && (p.1 == q.1)) xs
