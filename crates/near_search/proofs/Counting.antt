-- The first k of a list in order, by how many go before a rank.
use Rattle.std.proofs.Common.{◌≡◌, ℕ, ◌+◌, ◌≤◌, ◌<◌, Bool, true, false, Option, Some, None, List, [], ◌∷◌, ◌++◌, length, take, zero, suc, refl, sym, ap, subst, ◌∙◌, arith}
use Rattle.std.specs.Prelude.{nat_le, if◌then◌else◌, IsPermutation, IfSome, IfNone}
use Rattle.std.specs.List.{AllByRecursion, slice_get, slice_index_or}
use Rattle.std.specs.Cmp.{IsStrictWeakOrder}
use Rattle.std.proofs.lemmas.List.{take_all}
use Rattle.std.proofs.lemmas.List.Sorted.{length_permutation, IsPermutation-append_comm, IsPermutation-to_front}
use Rattle.std.proofs.lemmas.List.Sums.{sum_by-cons, sum_by-append, count_by-le-length}
use Rattle.std.proofs.lemmas.Bool.Decides.{nat_tests}
use Rattle.std.proofs.Math.Seq.{take-append_seam}
use Rattle.answer_lists.specs.Order.{goes_before, with_inserted, sorted_by}
use Rattle.answer_lists.specs.OrderLaws as laws
use Rattle.answer_lists.specs.OrderLaws.{Pair}
use Rattle.near_search.specs.Queue.{count_before}
use Rattle.spb_edge.specs.Counts.{one_if}

abbrev pub InOrder : List Pair → Type 0
InOrder xs = laws.IsInOrder goes_before xs

pub in_order-sorted_by : (xs : List Pair) → InOrder (sorted_by goes_before xs)
in_order-sorted_by xs = laws.in_order-sorted_by goes_before (laws.weak goes_before laws.pair_order) xs

pub order : IsStrictWeakOrder goes_before
order = laws.weak goes_before laws.pair_order

abbrev is_yes : Bool → Type 0
is_yes true = Unit {0}
is_yes false = ⊥

differ : true ≡ false → ⊥
differ e = subst is_yes e tt

pub shut-is : (k n : ℕ) → true ≡ nat_le k n → k ≤ n
shut-is k n h = grind (arith, nat_tests)

pub open-is : (k n : ℕ) → false ≡ nat_le k n → n < k
open-is k n h = grind (arith, nat_tests)

-- ---- how many go before

pub count_before-cons : (r x : Pair) (xs : List Pair) → count_before r (x ∷ xs) ≡ one_if (goes_before x r) + count_before r xs
count_before-cons r x xs = sum_by-cons _ x xs

pub count_before-append : (r : Pair) (xs ys : List Pair) → count_before r (xs ++ ys) ≡ count_before r xs + count_before r ys
count_before-append r xs ys = sum_by-append _ xs ys

pub count_before-one : (r x : Pair) (xs : List Pair) → goes_before x r ≡ true → count_before r (x ∷ xs) ≡ 1 + count_before r xs
count_before-one r x xs is = count_before-cons r x xs ∙ ap (λ b. one_if b + count_before r xs) is

pub count_before-other : (r x : Pair) (xs : List Pair) → goes_before x r ≡ false → count_before r (x ∷ xs) ≡ count_before r xs
count_before-other r x xs is = let a = count_before-cons r x xs in let b : one_if (goes_before x r) ≡ 0 = ap one_if is in omega (arith, a, b)

-- none of these goes before
pub count_before-none : (r : Pair) (xs : List Pair) → AllByRecursion (λ (y : Pair). goes_before y r ≡ false) xs → count_before r xs ≡ 0
count_before-none r [] all = refl
count_before-none r (x ∷ xs) all = count_before-other r x xs all.0 ∙ count_before-none r xs all.1

-- if an item doesn't go before the rank, none after it does
pub further : (r y : Pair) (ys : List Pair) → goes_before y r ≡ false → AllByRecursion (λ (z : Pair). goes_before z y ≡ false) ys
    → AllByRecursion (λ (z : Pair). goes_before z r ≡ false) ys
further r y [] h all = tt
further r y (z ∷ zs) h all = (order.chain z y r all.0 h, further r y zs h all.1)

none-behind : (r y : Pair) (ys : List Pair) → goes_before y r ≡ false → AllByRecursion (λ (z : Pair). goes_before z y ≡ false) ys → count_before r (y ∷ ys) ≡ 0
none-behind r y ys h all = count_before-none r (y ∷ ys) (h, further r y ys h all)

-- a later rank has no fewer before it
pub count_before-more : (r s : Pair) (xs : List Pair) → goes_before s r ≡ false → count_before r xs ≤ count_before s xs
count_before-more r s [] h = omega arith
count_before-more r s (x ∷ xs) h = step (goes_before x r) refl (count_before-more r s xs h) where
  later : (c : Bool) → goes_before x s ≡ c → goes_before x r ≡ true → count_before r xs ≤ count_before s xs → count_before r (x ∷ xs) ≤ count_before s (x ∷ xs)
  later true is at rest = let a = count_before-one r x xs at in let b = count_before-one s x xs is in omega (arith, a, b, rest)
  later false is at rest = absurd (differ (sym at ∙ order.chain x s r is h))

  step : (b : Bool) → goes_before x r ≡ b → count_before r xs ≤ count_before s xs → count_before r (x ∷ xs) ≤ count_before s (x ∷ xs)
  step true at rest = later (goes_before x s) refl at rest
  step false at rest = let a = count_before-other r x xs at in let b = count_before-cons s x xs in omega (arith, a, b, rest)

-- ---- the sorted list

pub sorted_by-permuted : (xs ys : List Pair) → IsPermutation xs ys → sorted_by goes_before ys ≡ sorted_by goes_before xs
sorted_by-permuted xs ys moved = sym (laws.sorted_by-same goes_before laws.pair_order xs ys moved)

swapped : (xs ys : List Pair) → sorted_by goes_before (ys ++ xs) ≡ sorted_by goes_before (xs ++ ys)
swapped xs ys = sorted_by-permuted (xs ++ ys) (ys ++ xs) (IsPermutation-append_comm xs ys)

pub sorted_by-none : sorted_by goes_before [] ≡ []
unfolding sorted_by
sorted_by-none = refl

pub sorted_by-more : (xs : List Pair) (x : Pair) → sorted_by goes_before (xs ++ x ∷ []) ≡ with_inserted goes_before x (sorted_by goes_before xs)
unfolding sorted_by
sorted_by-more xs x = sym (swapped xs (x ∷ []))

pub count_before-sorted_by : (r : Pair) (xs : List Pair) → count_before r (sorted_by goes_before xs) ≡ count_before r xs
count_before-sorted_by r xs = laws.sorted_by-count goes_before (λ other. goes_before other r) xs

-- ---- the first k

-- what comes after k others isn't among the first k
take-with_inserted : (r : Pair) (k : ℕ) (zs : List Pair) → InOrder zs → k ≤ count_before r zs → take k (with_inserted goes_before r zs) ≡ take k zs
take-with_inserted r zero zs up many = refl
take-with_inserted r (suc k) [] up many = absurd (omega (arith, many))
take-with_inserted r (suc k) (y ∷ ys) up many = step (goes_before y r) refl (take-with_inserted r k ys up.1) where
  step : (b : Bool) → goes_before y r ≡ b → (k ≤ count_before r ys → take k (with_inserted goes_before r ys) ≡ take k ys)
      → take (suc k) (if b then y ∷ with_inserted goes_before r ys else r ∷ y ∷ ys) ≡ y ∷ take k ys
  step true is rest = ap (λ zs. y ∷ zs) (rest (let a = count_before-one r y ys is in omega (arith, a, many)))
  step false is rest = absurd (let a = none-behind r y ys is up.0 in omega (arith, a, many))

pub take-far : (k : ℕ) (xs ys : List Pair) → AllByRecursion (λ (r : Pair). k ≤ count_before r xs) ys
    → take k (sorted_by goes_before (xs ++ ys)) ≡ take k (sorted_by goes_before xs)
unfolding sorted_by
take-far k xs ys all = ap (take k) (sym (swapped xs ys)) ∙ in_front ys all where
  in_front : (ys : List Pair) → AllByRecursion (λ (r : Pair). k ≤ count_before r xs) ys
      → take k (sorted_by goes_before (ys ++ xs)) ≡ take k (sorted_by goes_before xs)
  in_front [] all = refl
  in_front (y ∷ ys) all =
      let many : k ≤ count_before y (sorted_by goes_before (ys ++ xs)) =
      (let a = count_before-sorted_by y (ys ++ xs) in let b = count_before-append y ys xs in omega (arith, a, b, all.0)) in
      take-with_inserted y k (sorted_by goes_before (ys ++ xs)) (in_order-sorted_by (ys ++ xs)) many ∙ in_front ys all.1

once : (k : ℕ) (y : Pair) (ys : List Pair) → take k (y ∷ take k ys) ≡ take k (y ∷ ys)
once zero y ys = refl
once (suc k) y ys = ap (λ zs. y ∷ zs) (shorter k ys) where
  shorter : (k : ℕ) (ys : List Pair) → take k (take (suc k) ys) ≡ take k ys
  shorter zero ys = refl
  shorter (suc k) [] = refl
  shorter (suc k) (y ∷ ys) = ap (λ zs. y ∷ zs) (shorter k ys)

-- what isn't among the first k needn't be kept
pub with_inserted-take : (r : Pair) (k : ℕ) (zs : List Pair) → take k (with_inserted goes_before r (take k zs)) ≡ take k (with_inserted goes_before r zs)
with_inserted-take r zero zs = refl
with_inserted-take r (suc k) [] = refl
with_inserted-take r (suc k) (y ∷ ys) = step (goes_before y r) (with_inserted-take r k ys) where
  step : (b : Bool) → take k (with_inserted goes_before r (take k ys)) ≡ take k (with_inserted goes_before r ys)
      → take (suc k) (if b then y ∷ with_inserted goes_before r (take k ys) else r ∷ y ∷ take k ys)
      ≡ take (suc k) (if b then y ∷ with_inserted goes_before r ys else r ∷ y ∷ ys)
  step true rest = ap (λ zs. y ∷ zs) rest
  step false rest = ap (λ zs. r ∷ zs) (once k y ys)

both_none : (k a b : ℕ) → a ≡ 0 → b ≡ 0 → nat_le (suc k) a ≡ nat_le (suc k) b
both_none k a b e f = ap (nat_le (suc k)) (e ∙ sym f)

one_less : (k a c : ℕ) → c ≡ 1 + a → nat_le (suc k) c ≡ nat_le k a
one_less k a c e = grind (arith, nat_tests)

-- the first k decide whether k go before
pub count_before-take : (r : Pair) (k : ℕ) (zs : List Pair) → InOrder zs → nat_le k (count_before r (take k zs)) ≡ nat_le k (count_before r zs)
count_before-take r zero zs up = le-zero (count_before r (take 0 zs)) ∙ sym (le-zero (count_before r zs)) where
  le-zero : (n : ℕ) → nat_le 0 n ≡ true
  le-zero n = grind (arith, nat_tests)
count_before-take r (suc k) [] up = refl
count_before-take r (suc k) (y ∷ ys) up = step (goes_before y r) refl (count_before-take r k ys up.1) where
  front : (k : ℕ) (P : Pair → Type 0) (zs : List Pair) → AllByRecursion P zs → AllByRecursion P (take k zs)
  front zero P zs all = tt
  front (suc k) P [] all = tt
  front (suc k) P (z ∷ zs) all = (all.0, front k P zs all.1)

  step : (b : Bool) → goes_before y r ≡ b → nat_le k (count_before r (take k ys)) ≡ nat_le k (count_before r ys)
      → nat_le (suc k) (count_before r (y ∷ take k ys)) ≡ nat_le (suc k) (count_before r (y ∷ ys))
  step true is rest = one_less k (count_before r (take k ys)) _ (count_before-one r y (take k ys) is) ∙ rest
      ∙ sym (one_less k (count_before r ys) _ (count_before-one r y ys is))
  step false is rest = both_none k _ _ (none-behind r y (take k ys) is (front k (λ (z : Pair). goes_before z y ≡ false) ys up.0)) (none-behind r y ys is up.0)

-- ---- the k-th

-- there is a last one and it goes before the rank
abbrev pub past : Option Pair → Pair → Bool
past None r = false
past (Some last) r = goes_before last r

pub past-is : (r : Pair) (k : ℕ) (zs : List Pair) → InOrder zs → past (slice_get zs k) r ≡ nat_le (suc k) (count_before r zs)
past-is r k [] up = none k where
  none : (k : ℕ) → false ≡ nat_le (suc k) 0
  none k = grind (arith, nat_tests)
past-is r zero (y ∷ ys) up = step (goes_before y r) refl where
  some : (a c : ℕ) → c ≡ 1 + a → true ≡ nat_le 1 c
  some a c e = grind (arith, nat_tests)

  none : (c : ℕ) → c ≡ 0 → false ≡ nat_le 1 c
  none c e = grind (arith, nat_tests)

  step : (b : Bool) → goes_before y r ≡ b → goes_before y r ≡ nat_le 1 (count_before r (y ∷ ys))
  step true is = is ∙ some (count_before r ys) _ (count_before-one r y ys is)
  step false is = is ∙ none _ (none-behind r y ys is up.0)
past-is r (suc k) (y ∷ ys) up = past-is r k ys up.1 ∙ step (goes_before y r) refl where
  step : (b : Bool) → goes_before y r ≡ b → nat_le (suc k) (count_before r ys) ≡ nat_le (suc (suc k)) (count_before r (y ∷ ys))
  step true is = sym (one_less (suc k) (count_before r ys) _ (count_before-one r y ys is))
  step false is = none k (count_before r ys) _ (count_before-none r ys (further r y ys is up.0)) (none-behind r y ys is up.0) where
    none : (k a c : ℕ) → a ≡ 0 → c ≡ 0 → nat_le (suc k) a ≡ nat_le (suc (suc k)) c
    none k a c e f = grind (arith, nat_tests)

-- ---- a heap of the first k

-- one more, if there is room
pub put-few : (k : ℕ) (r : Pair) (old new : List Pair) → IsPermutation (r ∷ old) new → length new ≤ k
    → sorted_by goes_before new ≡ take k (with_inserted goes_before r (sorted_by goes_before old))
unfolding sorted_by
put-few k r old new moved few =
    let is = sorted_by-permuted (r ∷ old) new moved in
    let long = laws.sorted_by-length goes_before new in
    is ∙ sym (ap (take k) (sym is) ∙ take_all k (sorted_by goes_before new) (omega (arith, long, few)) ∙ is)

-- one more that is pruned changes nothing
pub put-shut : (k : ℕ) (r : Pair) (xs : List Pair) → length xs ≤ k → k ≤ count_before r (sorted_by goes_before xs)
    → sorted_by goes_before xs ≡ take k (with_inserted goes_before r (sorted_by goes_before xs))
put-shut k r xs few many =
    let long = laws.sorted_by-length goes_before xs in
    sym (take-with_inserted r k (sorted_by goes_before xs) (in_order-sorted_by xs) many ∙ take_all k (sorted_by goes_before xs) (omega (arith, long, few)))

-- one more, and the greatest taken out
pub put-many : (k : ℕ) (r greatest : Pair) (old amid new : List Pair) → IsPermutation (r ∷ old) amid → IsPermutation amid (greatest ∷ new)
    → AllByRecursion (λ (y : Pair). goes_before greatest y ≡ false) new → length new ≡ k
    → sorted_by goes_before new ≡ take k (with_inserted goes_before r (sorted_by goes_before old))
unfolding sorted_by
put-many k r greatest old amid new first second below long =
    let last : sorted_by goes_before (new ++ greatest ∷ []) ≡ sorted_by goes_before new ++ greatest ∷ [] =
    laws.sorted_by-append goes_before laws.pair_order new (greatest ∷ []) (behind new below) in
    let whole : with_inserted goes_before r (sorted_by goes_before old) ≡ sorted_by goes_before new ++ greatest ∷ [] =
    sym (sorted_by-permuted (r ∷ old) amid first) ∙ sym (sorted_by-permuted amid (greatest ∷ new) second)
    ∙ sorted_by-permuted (new ++ greatest ∷ []) (greatest ∷ new) (IsPermutation-to_front new greatest) ∙ last in
    sym (ap (take k) whole ∙ ap (λ n. take n (sorted_by goes_before new ++ greatest ∷ [])) (sym (laws.sorted_by-length goes_before new ∙ long))
    ∙ take-append_seam (sorted_by goes_before new) (greatest ∷ []))
  where
    behind : (xs : List Pair) → AllByRecursion (λ (y : Pair). goes_before greatest y ≡ false) xs → laws.AreAllAfter goes_before xs (greatest ∷ [])
    behind [] all = tt
    behind (x ∷ xs) all = ((all.0, tt), behind xs all.1)

-- while there is room, none is pruned
pub open-few : (k : ℕ) (r : Pair) (xs : List Pair) → length xs < k → false ≡ nat_le k (count_before r (sorted_by goes_before xs))
open-few k r xs few =
    let a = count_before-sorted_by r xs in
    let b : count_before r xs ≤ length xs = count_by-le-length _ xs in under _ (omega (arith, a, b, few))
  where
    under : (c : ℕ) → c < k → false ≡ nat_le k c
    under c h = grind (arith, nat_tests)

all-count_before : (greatest r : Pair) (xs : List Pair) → goes_before greatest r ≡ true → AllByRecursion (λ (y : Pair). goes_before greatest y ≡ false) xs
    → count_before r xs ≡ length xs
all-count_before greatest r [] is below = refl
all-count_before greatest r (x ∷ xs) is below = step (goes_before x r) refl (all-count_before greatest r xs is below.1) where
  step : (b : Bool) → goes_before x r ≡ b → count_before r xs ≡ length xs → count_before r (x ∷ xs) ≡ suc (length xs)
  step true at rest = let a = count_before-one r x xs at in omega (arith, a, rest)
  step false at rest = absurd (differ (sym is ∙ order.chain greatest x r below.0 at))

-- once there is no room, the greatest decides
pub open-many : (k : ℕ) (greatest r : Pair) (xs : List Pair) → length xs ≡ k → 0 < k → greatest ≡ slice_index_or xs 0 greatest
    → AllByRecursion (λ (y : Pair). goes_before greatest y ≡ false) xs
    → goes_before greatest r ≡ nat_le k (count_before r (sorted_by goes_before xs))
open-many k greatest r [] long some at below = absurd (omega (arith, long, some))
open-many k greatest r (x ∷ xs) long some at below = step (goes_before greatest r) refl where
  full : (c : ℕ) → c ≡ k → true ≡ nat_le k c
  full c e = grind (arith, nat_tests)

  under : (c : ℕ) → c < k → false ≡ nat_le k c
  under c h = grind (arith, nat_tests)

  same : count_before r (sorted_by goes_before (x ∷ xs)) ≡ count_before r (x ∷ xs)
  same = count_before-sorted_by r (x ∷ xs)

  step : (b : Bool) → goes_before greatest r ≡ b → goes_before greatest r ≡ nat_le k (count_before r (sorted_by goes_before (x ∷ xs)))
  step true is = is ∙ full _ (same ∙ all-count_before greatest r (x ∷ xs) is below ∙ long)
  step false is =
      let a = count_before-other r x xs (subst (λ (y : Pair). goes_before y r ≡ false) at is) in
      let b : count_before r xs ≤ length xs = count_by-le-length _ xs in
      is ∙ under _ (let c = same in omega (arith, a, b, c, long))

-- what `pop` leaves
pub popped : (k : ℕ) (r : Pair) (old amid new : List Pair) (top : Option Pair) (heaped : Type 0) → IsPermutation (r ∷ old) amid
    → IfSome top (λ (x : Pair). IsPermutation amid (x ∷ new)) → heaped
    → IfSome top (λ (x : Pair). heaped → AllByRecursion (λ (y : Pair). goes_before x y ≡ false) new) → IfNone top (length amid ≡ 0) → length old ≤ k
    → k < length amid
    → sorted_by goes_before new ≡ take k (with_inserted goes_before r (sorted_by goes_before old))
popped k r old amid new None heaped first second is below none few many = absurd (omega (arith, many, none))
popped k r old amid new (Some x) heaped first second is below none few many =
    put-many k r x old amid new first second (below is) (let a = length_permutation _ _ first in let b = length_permutation _ _ second in
    omega (arith, a, b, few, many))

pub none_left : (top : Option Pair) (n m : ℕ) → n ≡ m → IfNone top (m ≡ 0) → IfNone top (n ≡ 0)
none_left None n m same h = same ∙ h
none_left (Some x) n m same h = tt
