-- How often pages are among others: in lists joined, taken apart and changed round, and where no page is twice.
use Rattle.std.proofs.Common.{◌≡◌, inl, inr, ℕ, zero, suc, ◌+◌, ◌<◌, ◌≤◌, ◌==◌, Bool, true, false, not, ◌&&◌, cond, List, [], ◌∷◌, ◌++◌, refl, sym, subst, arith}
use Rattle.std.specs.Prelude.{IsTrue}
use Rattle.std.specs.List.{AllByRecursion, IsDistinct}
use Rattle.std.specs.List.Sorted.{IsPermutation}
use Rattle.std.proofs.lemmas.Bool.{cases_eq, and_parts, false≢true}
use Rattle.std.proofs.lemmas.Bool.Decides.{nat_tests}
use Rattle.std.proofs.lemmas.List.Sums.{sum_by-cons, sum_by-append}
use Rattle.std.proofs.lemmas.List.Sorted.{sum_by-IsPermutation}
use Rattle.page_laws.specs.Pages.{is_among, is_live, AreFree}
use Rattle.page_laws.specs.FreeLaws.{among_all}
use Rattle.bptree_edit.specs.NodesAt.{times, AreOwn}

-- one if two numbers are the same
abbrev pub one_if : ℕ → ℕ → ℕ
one_if m n = cond (m == n) 1 0

pub times-none : (n : ℕ) → times n [] ≡ 0
unfolding times
times-none n = refl

pub times-cons : (n x : ℕ) (xs : List ℕ) → times n (x ∷ xs) ≡ one_if x n + times n xs
unfolding times
times-cons n x xs = sum_by-cons (λ m. cond (m == n) 1 0) x xs

pub times-append : (n : ℕ) (xs ys : List ℕ) → times n (xs ++ ys) ≡ times n xs + times n ys
unfolding times
times-append n xs ys = sum_by-append (λ m. cond (m == n) 1 0) xs ys

pub times-permutation : (n : ℕ) (xs ys : List ℕ) → IsPermutation xs ys → times n xs ≡ times n ys
unfolding times
times-permutation n xs ys same = sym (sum_by-IsPermutation (λ m. cond (m == n) 1 0) xs ys same)

pub one_same : (n : ℕ) → one_if n n ≡ 1
one_same n = grind (arith, nat_tests)

pub one_other : (m n : ℕ) → (m ≡ n → ⊥) → one_if m n ≡ 0
one_other m n other = grind (arith, nat_tests)

-- ---- whether it is among them

pub among-times : (n : ℕ) (xs : List ℕ) → is_among n xs ≡ true → 0 < times n xs
among-times n [] is = absurd (false≢true is)
among-times n (x ∷ xs) is = elim (cases_eq x n) [
  | inl same ↦ let one : one_if x n ≡ 1 = grind (arith, nat_tests, same) in omega (arith, times-cons n x xs, one)
  | inr other ↦ let there : is_among n xs ≡ true = grind (arith, nat_tests, other, is) in omega (arith, times-cons n x xs, among-times n xs there)
]

pub times-among : (n : ℕ) (xs : List ℕ) → 0 < times n xs → is_among n xs ≡ true
times-among n [] some = absurd (omega (arith, some, times-none n))
times-among n (x ∷ xs) some = elim (cases_eq x n) [
  | inl same ↦ grind (arith, nat_tests, same)
  | inr other ↦
      let none : one_if x n ≡ 0 = one_other x n other in
      let there : is_among n xs ≡ true = times-among n xs (omega (arith, some, none, times-cons n x xs)) in
      grind (arith, nat_tests, other, there)
]

not_among : (b : Bool) → (b ≡ true → ⊥) → IsTrue (not b)
not_among true never = absurd (never refl)
not_among false never = refl

pub times-not_among : (n : ℕ) (xs : List ℕ) → times n xs ≡ 0 → IsTrue (not (is_among n xs))
times-not_among n xs none = not_among (is_among n xs) (λ is. omega (arith, among-times n xs is, none))

not_both : (b : Bool) → not b ≡ true → b ≡ true → ⊥
not_both true one two = false≢true one
not_both false one two = false≢true two

pub not_among-times : (n : ℕ) (xs : List ℕ) → IsTrue (not (is_among n xs)) → times n xs ≡ 0
not_among-times n xs is = none (times n xs) refl
  where
    none : (k : ℕ) → times n xs ≡ k → times n xs ≡ 0
    none zero same = same
    none (suc k) same = absurd (not_both (is_among n xs) is (times-among n xs (omega (arith, same))))

-- ---- what holds of all

pub all-times : (P : ℕ → Type 0) (n : ℕ) (xs : List ℕ) → AllByRecursion P xs → 0 < times n xs → P n
all-times P n xs all some = among_all P n xs all (times-among n xs some)

pub times-all : (P : ℕ → Type 0) (xs : List ℕ) → ((n : ℕ) → 0 < times n xs → P n) → AllByRecursion P xs
times-all P [] each = tt
times-all P (x ∷ xs) each = (
  each x (omega (arith, times-cons x x xs, one_same x)),
  times-all P xs (λ n some. each n (omega (arith, times-cons n x xs, some))),
)

none_same : (x : ℕ) (xs : List ℕ) → AllByRecursion (λ y. (x == y) ≡ false) xs → times x xs ≡ 0
none_same x [] all = times-none x
none_same x (y ∷ ys) all = let other : one_if y x ≡ 0 = grind (arith, nat_tests, all.0) in omega (arith, times-cons x y ys, none_same x ys all.1, other)

pub distinct-times : (n : ℕ) (xs : List ℕ) → IsDistinct (λ a b. a == b) xs → times n xs ≤ 1
unfolding IsDistinct
distinct-times n [] distinct = omega (arith, times-none n)
distinct-times n (x ∷ xs) distinct = elim (cases_eq x n) [
  | inl same ↦
      let none : times n xs ≡ 0 = subst (λ k. times k xs ≡ 0) same (none_same x xs distinct.0) in
      let one : one_if x n ≡ 1 = grind (arith, nat_tests, same) in
      omega (arith, times-cons n x xs, none, one)
  | inr other ↦ omega (arith, times-cons n x xs, distinct-times n xs distinct.1, one_other x n other)
]

pub times-distinct : (xs : List ℕ) → ((n : ℕ) → times n xs ≤ 1) → IsDistinct (λ a b. a == b) xs
unfolding IsDistinct
times-distinct [] once = tt
times-distinct (x ∷ xs) once = (
  times-all (λ y. (x == y) ≡ false) xs (λ y some. elim (cases_eq x y) [
    | inl same ↦
        let one : one_if x y ≡ 1 = grind (arith, nat_tests, same) in
        absurd (omega (arith, once y, times-cons y x xs, some, one))
    | inr other ↦ grind (arith, nat_tests, other)
  ]),
  times-distinct xs (λ n. omega (arith, once n, times-cons n x xs)),
)

-- ---- a page that is taken

pub taken_pool : (in_pool : ℕ → Bool) (old new : List ℕ) (n : ℕ) → AreFree in_pool old → IsPermutation old (n ∷ new) → IsTrue (in_pool n)
taken_pool in_pool old new n free same =
    all-times (λ m. IsTrue (in_pool m)) n old free.pool (omega (arith, times-permutation n old (n ∷ new) same, times-cons n n new, one_same n))

pub taken_other : (in_pool : ℕ → Bool) (old new : List ℕ) (n m : ℕ) → IsPermutation old (n ∷ new) → IsTrue (is_live in_pool old m) → m ≡ n → ⊥
taken_other in_pool old new n m same live is =
    let parts = and_parts (in_pool m) (not (is_among m old)) live in
    let one : one_if n m ≡ 1 = grind (arith, nat_tests, is) in
    omega (arith, not_among-times m old parts.1, times-permutation m old (n ∷ new) same, times-cons m n new, one)

pub live_pool : (in_pool : ℕ → Bool) (free : List ℕ) (n : ℕ) → IsTrue (is_live in_pool free n) → IsTrue (in_pool n)
live_pool in_pool free n live = (and_parts (in_pool n) (not (is_among n free)) live).0

pub both_true : (a b : Bool) → a ≡ true → b ≡ true → (a && b) ≡ true
both_true a b one two = grind (arith, nat_tests, one, two)

-- a page stays live while pages are taken
pub live_stays : (in_pool : ℕ → Bool) (old new : List ℕ) (n : ℕ) → ((m : ℕ) → times m new ≤ times m old) → IsTrue (is_live in_pool old n) → IsTrue (is_live in_pool new n)
live_stays in_pool old new n fewer live =
    let parts = and_parts (in_pool n) (not (is_among n old)) live in
    both_true (in_pool n) (not (is_among n new)) parts.0 (times-not_among n new (omega (arith, fewer n, not_among-times n old parts.1)))

-- a page of a tree is live
pub own_live : (in_pool : ℕ → Bool) (free used : List ℕ) (n : ℕ) → AreOwn in_pool free used → 0 < times n used → IsTrue (is_live in_pool free n)
own_live in_pool free used n own some =
    both_true (in_pool n) (not (is_among n free)) (own.pool n (omega (arith, some))) (times-not_among n free (omega (arith, own.once n, some)))
