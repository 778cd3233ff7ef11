-- Lists of numbers, none twice, of which one goes in front.
use Rattle.std.proofs.Common.{◌≡◌, inl, inr, ℕ, zero, suc, ◌-◌, ◌<◌, ◌≤◌, ◌==◌, ◌||◌, not, Bool, true, false, List, [], ◌∷◌, length, take, cond, refl, sym, ap, subst, ◌∙◌, arith}
use Rattle.std.specs.Prelude.{nat_eq}
use Rattle.std.specs.List.{AllByRecursion, IsDistinct, list_any, filter}
use Rattle.std.specs.Cmp.{nat_eq_equiv}
use Rattle.std.proofs.lemmas.Bool.{cases_eq, false≢true}
use Rattle.std.proofs.lemmas.Bool.Decides.{nat_tests}
use Rattle.std.proofs.lemmas.List.{length-take, take_all}
use Rattle.std.proofs.lemmas.List.Sums.{length-filter, count_by-le-length}
use Rattle.page_laws.specs.Pages.{is_among}
use Rattle.page_cache.specs.Misses.{without}

pub neither : (a b : Bool) → (a || b) ≡ false → (a ≡ false) × (b ≡ false)
neither true b is = absurd (false≢true (sym is))
neither false b is = (refl, is)

pub same_number : (m n : ℕ) → nat_eq m n ≡ true → m ≡ n
same_number m n is = grind (arith, nat_tests)

pub other_number : (m n : ℕ) → nat_eq m n ≡ false → m ≡ n → ⊥
other_number m n is same = grind (arith, nat_tests, is, same)

-- a number that isn't there leaves the list when it is taken out
pub without_none : (n : ℕ) (ks : List ℕ) → is_among n ks ≡ false → without n ks ≡ ks
without_none n [] none = refl
without_none n (k ∷ ks) none =
    let parts = neither (k == n) (is_among n ks) none in
    ap (λ b. cond (not b) (k ∷ without n ks) (without n ks)) parts.0 ∙ ap (λ (l : List ℕ). k ∷ l) (without_none n ks parts.1)

-- it isn't there afterwards, and the others are
step_out : (b : Bool) (n k : ℕ) (ks : List ℕ) → (k == n) ≡ b → is_among n (without n ks) ≡ false
    → is_among n (cond (not b) (k ∷ without n ks) (without n ks)) ≡ false
step_out true n k ks is rest = rest
step_out false n k ks is rest = ap (λ b. b || is_among n (without n ks)) is ∙ rest

pub none_without : (n : ℕ) (ks : List ℕ) → is_among n (without n ks) ≡ false
none_without n [] = refl
none_without n (k ∷ ks) = step_out (k == n) n k ks refl (none_without n ks)

-- a number that is there makes the list shorter when it is taken out
without_fewer : (n : ℕ) (ks : List ℕ) → length (without n ks) ≤ length ks
without_fewer n ks = omega (arith, length-filter (λ m. not (m == n)) ks, count_by-le-length (λ m. not (m == n)) ks)

shorter_step : (b : Bool) (n k : ℕ) (ks : List ℕ) → (b || is_among n ks) ≡ true → (is_among n ks ≡ true → length (without n ks) < length ks)
    → length (cond (not b) (k ∷ without n ks) (without n ks)) < suc (length ks)
shorter_step true n k ks is rest = omega (arith, without_fewer n ks)
shorter_step false n k ks is rest = let less = rest is in omega (arith, less)

pub shorter : (n : ℕ) (ks : List ℕ) → is_among n ks ≡ true → length (without n ks) < length ks
shorter n [] is = absurd (false≢true is)
shorter n (k ∷ ks) is = shorter_step (k == n) n k ks is (λ among. shorter n ks among)

-- one that is there goes in front of a list that has room for no more
pub front_fits : (n room : ℕ) (ks : List ℕ) → length ks ≤ room → is_among n ks ≡ true → take room (n ∷ without n ks) ≡ n ∷ without n ks
front_fits n room ks fits is = let less = shorter n ks is in take_all room (n ∷ without n ks) (omega (arith, fits, less))

-- one that isn't there goes in front, and the last one goes
pub front_new : (n room : ℕ) (ks : List ℕ) → 0 < room → is_among n ks ≡ false → take room (n ∷ without n ks) ≡ n ∷ take (room - 1) ks
front_new n zero ks some none = absurd (omega (arith, some))
front_new n (suc room) ks some none =
    let one : room ≡ suc room - 1 = omega arith in
    ap (λ (l : List ℕ). n ∷ take room l) (without_none n ks none) ∙ ap (λ m. n ∷ take m ks) one

-- no number is there twice, and no more numbers than there is room for
all_cond : (P : ℕ → Type 0) (b : Bool) (x : ℕ) (xs : List ℕ) → P x → AllByRecursion P xs → AllByRecursion P (cond b (x ∷ xs) xs)
all_cond P true x xs is all = (is, all)
all_cond P false x xs is all = all

all_filter : (P : ℕ → Type 0) (p : ℕ → Bool) (xs : List ℕ) → AllByRecursion P xs → AllByRecursion P (filter p xs)
all_filter P p [] all = tt
all_filter P p (x ∷ xs) all = all_cond P (p x) x (filter p xs) all.0 (all_filter P p xs all.1)

distinct_cond : (b : Bool) (x : ℕ) (xs : List ℕ) → AllByRecursion (λ y. (x == y) ≡ false) xs → IsDistinct (λ a b. a == b) xs
    → IsDistinct (λ a b. a == b) (cond b (x ∷ xs) xs)
unfolding IsDistinct
distinct_cond true x xs all distinct = (all, distinct)
distinct_cond false x xs all distinct = distinct

pub distinct_without : (n : ℕ) (xs : List ℕ) → IsDistinct (λ a b. a == b) xs → IsDistinct (λ a b. a == b) (without n xs)
unfolding IsDistinct
distinct_without n [] distinct = tt
distinct_without n (x ∷ xs) distinct =
    distinct_cond (not (x == n)) x (without n xs) (all_filter (λ y. (x == y) ≡ false) (λ m. not (m == n)) xs distinct.0) (distinct_without n xs distinct.1)

all_take : (P : ℕ → Type 0) (k : ℕ) (xs : List ℕ) → AllByRecursion P xs → AllByRecursion P (take k xs)
all_take P zero xs all = tt
all_take P (suc k) [] all = tt
all_take P (suc k) (x ∷ xs) all = (all.0, all_take P k xs all.1)

distinct_take : (k : ℕ) (xs : List ℕ) → IsDistinct (λ a b. a == b) xs → IsDistinct (λ a b. a == b) (take k xs)
unfolding IsDistinct
distinct_take zero xs distinct = tt
distinct_take (suc k) [] distinct = tt
distinct_take (suc k) (x ∷ xs) distinct = (all_take (λ y. (x == y) ≡ false) k xs distinct.0, distinct_take k xs distinct.1)

-- what isn't among some numbers differs from each
pub none_same : (n : ℕ) (ks : List ℕ) → is_among n ks ≡ false → AllByRecursion (λ y. (n == y) ≡ false) ks
none_same n [] none = tt
none_same n (k ∷ ks) none = let parts = neither (k == n) (is_among n ks) none in (nat_eq_equiv.symm n k ∙ parts.0, none_same n ks parts.1)

-- and the other way round
pub all_other : (n : ℕ) (ks : List ℕ) → AllByRecursion (λ y. (n == y) ≡ false) ks → is_among n ks ≡ false
all_other n [] all = refl
all_other n (k ∷ ks) all = ap (λ b. b || is_among n ks) (nat_eq_equiv.symm k n ∙ all.0) ∙ all_other n ks all.1

front_distinct : (n : ℕ) (ks : List ℕ) → IsDistinct (λ a b. a == b) ks → IsDistinct (λ a b. a == b) (n ∷ without n ks)
unfolding IsDistinct
front_distinct n ks distinct = (none_same n (without n ks) (none_without n ks), distinct_without n ks distinct)

pub after_distinct : (n room : ℕ) (ks : List ℕ) → IsDistinct (λ a b. a == b) ks → IsDistinct (λ a b. a == b) (take room (n ∷ without n ks))
after_distinct n room ks distinct = distinct_take room (n ∷ without n ks) (front_distinct n ks distinct)

pub after_fits : (room : ℕ) (ks : List ℕ) → length (take room ks) ≤ room
after_fits room ks = omega (arith, length-take room ks)

pub without_fits : (n room : ℕ) (ks : List ℕ) → length ks ≤ room → length (without n ks) ≤ room
without_fits n room ks fits = omega (arith, fits, without_fewer n ks)
