-- The marks of free numbers, and how many there may be.
use Rattle.std.proofs.Common.{◌≡◌, inl, inr, ℕ, ◌+◌, ◌-◌, ◌≤◌, ◌<◌, ◌==◌, Bool, true, false, not, ◌&&◌, ◌||◌, IsTrue, List, [], ◌∷◌, ◌++◌, length, refl, sym, ap, subst, ◌∙◌, arith, slice_index, slice_index_or, slice_set, take, drop, replicate, suc}
use Rattle.std.specs.Prelude.{nat_le, nat_lt}
use Rattle.std.specs.List.{AllByRecursion, IsDistinct}
use Rattle.std.proofs.lemmas.Bool.{cases_eq, and_parts, false≢true}
use Rattle.std.proofs.lemmas.Bool.Decides.{nat_tests}
use Rattle.std.proofs.lemmas.List.{get_or-set_same, get_or-set_other, length-set, get_or-replicate, length-replicate, take-append-drop}
use Rattle.std.proofs.Math.Seq.{drop-cons}
use Rattle.std.proofs.lemmas.List.Folds.{list_any-append}
use Rattle.page_laws.specs.Pages.{is_among, is_live, AreFree}
use Rattle.page_laws.specs.FreeLaws.{free_fits, given_fits, given_free, taken_free, among_all}
use Rattle.free_list.specs.FreeNumbers.{FreeNumbers, IsFreeList, IsMarked, is_within}

-- ---- the range

within : (first count n : ℕ) → IsTrue (is_within first count n) → (first ≤ n) × (n < first + count)
within first count n is =
    let parts = and_parts (nat_le first n) (nat_lt n (first + count)) is in
    (grind (arith, nat_tests, parts.0), grind (arith, nat_tests, parts.1))

-- there are no more free numbers than numbers
pub fits : (l : FreeNumbers) → AreFree (is_within l.first l.count) l.numbers → length l.numbers ≤ l.count
fits l are = free_fits (is_within l.first l.count) l.first l.count l.numbers (within l.first l.count) are

-- and fewer if one isn't free
pub fits_one : (l : FreeNumbers) (n : ℕ) → AreFree (is_within l.first l.count) l.numbers → IsTrue (is_live (is_within l.first l.count) l.numbers n)
    → length l.numbers < l.count
fits_one l n are live = given_fits (is_within l.first l.count) l.first l.count l.numbers n (within l.first l.count) are live

not_true : (b : Bool) → not b ≡ true → b ≡ false
not_true true is = absurd (false≢true is)
not_true false is = refl

-- a number outside of the range isn't free
pub outside : (l : FreeNumbers) (n : ℕ) → AreFree (is_within l.first l.count) l.numbers → is_within l.first l.count n ≡ false → is_among n l.numbers ≡ false
outside l n are out = none (is_among n l.numbers) refl
  where
    none : (b : Bool) → is_among n l.numbers ≡ b → b ≡ false
    none false is = refl
    none true is = absurd (false≢true (sym out ∙ among_all (λ m. IsTrue (is_within l.first l.count m)) n l.numbers are.pool is))

-- ---- one number after others

all_at : (P : ℕ → Type 0) (xs ys : List ℕ) (y : ℕ) → AllByRecursion P (xs ++ y ∷ ys) → P y
all_at P [] ys y all = all.0
all_at P (x ∷ xs) ys y all = all_at P xs ys y all.1

apart : (xs ys : List ℕ) (y : ℕ) → IsDistinct (λ a b. a == b) (xs ++ y ∷ ys) → is_among y xs ≡ false
unfolding IsDistinct
apart [] ys y distinct = refl
apart (x ∷ xs) ys y distinct =
    let here : (x == y) ≡ false = all_at (λ z. (x == z) ≡ false) xs ys y distinct.0 in
    let rest : is_among y xs ≡ false = apart xs ys y distinct.1 in
    λ i. here i || rest i

-- of numbers that are free each one is live while only those before it are free
next_live : (in_pool : ℕ → Bool) (xs ys : List ℕ) (y : ℕ) → AreFree in_pool (xs ++ y ∷ ys) → IsTrue (is_live in_pool xs y)
next_live in_pool xs ys y are =
    let pool : in_pool y ≡ true = all_at (λ n. IsTrue (in_pool n)) xs ys y are.pool in
    let new : is_among y xs ≡ false = apart xs ys y are.distinct in
    λ i. pool i && not (new i)

-- ---- marks

or_yes : (b : Bool) → (b || (true || false)) ≡ true
or_yes true = refl
or_yes false = refl

or_no : (b : Bool) → (b || (false || false)) ≡ b
or_no true = refl
or_no false = refl

among_last : (n m : ℕ) (numbers : List ℕ) → is_among n (numbers ++ m ∷ []) ≡ (is_among n numbers || ((m == n) || false))
among_last n m numbers = list_any-append (λ k. k == n) numbers (m ∷ [])

among_same : (n m : ℕ) (numbers : List ℕ) → m ≡ n → is_among n (numbers ++ m ∷ []) ≡ true
among_same n m numbers same =
    let is : (m == n) ≡ true = grind (arith, nat_tests, same) in
    among_last n m numbers ∙ (λ i. is_among n numbers || (is i || false)) ∙ or_yes (is_among n numbers)

among_other : (n m : ℕ) (numbers : List ℕ) → (m ≡ n → ⊥) → is_among n (numbers ++ m ∷ []) ≡ is_among n numbers
among_other n m numbers other =
    let is : (m == n) ≡ false = grind (arith, nat_tests, other) in
    among_last n m numbers ∙ (λ i. is_among n numbers || (is i || false)) ∙ or_no (is_among n numbers)

module _ (first n : ℕ) (marks : List Bool) (numbers : List ℕ) (least : first ≤ n) (below : n < first + length marks) where
  place : n - first < length marks
  place = omega (arith, least, below)

  here : (b : Bool) (i : ℕ) → i ≡ n - first → slice_index_or (slice_set marks (n - first) b) i false ≡ b
  here b i same = subst (λ k. slice_index_or (slice_set marks (n - first) b) k false ≡ b) (sym same) (get_or-set_same marks (n - first) b false place)

  there : (b : Bool) (i : ℕ) → (i ≡ n - first → ⊥) → slice_index_or (slice_set marks (n - first) b) i false ≡ slice_index_or marks i false
  there b i other = get_or-set_other marks (n - first) i b false other

  inside : (b : Bool) (i : ℕ) → i < length (slice_set marks (n - first) b) → i < length marks
  inside b i few = omega (arith, few, length-set marks (n - first) b)

  -- a number joins the free ones
  given_marked : IsMarked first marks numbers → IsMarked first (slice_set marks (n - first) true) (numbers ++ n ∷ [])
  given_marked marked = record {
    by_place = λ i few. elim (cases_eq i (n - first)) [
      | inl same ↦ here true i same ∙ sym (among_same (first + i) n numbers (omega (arith, same, least)))
      | inr other ↦ there true i other ∙ marked.by_place i (inside true i few)
          ∙ sym (among_other (first + i) n numbers (λ is. other (omega (arith, is))))
    ];
  }

  -- a number leaves the free ones
  taken_marked : IsMarked first marks (numbers ++ n ∷ []) → is_among n numbers ≡ false → IsMarked first (slice_set marks (n - first) false) numbers
  taken_marked marked gone = record {
    by_place = λ i few. elim (cases_eq i (n - first)) [
      | inl same ↦ here false i same ∙ sym (subst (λ m. is_among m numbers ≡ false) (omega (arith, same, least)) gone)
      | inr other ↦ there false i other ∙ marked.by_place i (inside false i few)
          ∙ among_other (first + i) n numbers (λ is. other (omega (arith, is)))
    ];
  }

-- no mark is set
none_marked : (first count : ℕ) (marks : List Bool) → marks ≡ replicate count false → IsMarked first marks []
none_marked first count marks is = record {
  by_place = λ i few. ap (λ ms. slice_index_or ms i false) is
      ∙ get_or-replicate count i false false (omega (arith, few, ap length is ∙ length-replicate count false));
}

-- ---- lists of free numbers

abbrev pub free_numbers : ℕ → List Bool → List ℕ → FreeNumbers
free_numbers first marks numbers = record { first = first; count = length marks; numbers = numbers }

-- none of a range is free
pub none_free : (first count room : ℕ) (marks : List Bool) (numbers : List ℕ) → first + count ≤ 4294967295 → marks ≡ replicate count false → numbers ≡ []
    → count ≤ room → IsFreeList (free_numbers first marks numbers) marks room
unfolding IsDistinct
none_free first count room marks numbers ends is none enough =
    let long : length marks ≡ count = ap length is ∙ length-replicate count false in
    record {
      range = omega (arith, long, ends);
      free = subst (AreFree (is_within first (length marks))) (sym none) (record { pool = tt; distinct = tt });
      marked = subst (IsMarked first marks) (sym none) (none_marked first count marks is);
      room = omega (arith, long, enough);
    }

-- the last one is taken
pub taken : (first n old new : ℕ) (marks : List Bool) (all numbers : List ℕ) → all ≡ numbers ++ n ∷ [] → length marks ≤ new
    → IsFreeList (free_numbers first marks all) marks old
    → IsFreeList (free_numbers first (slice_set marks (n - first) false) numbers) (slice_set marks (n - first) false) new
taken first n old new marks all numbers is room list =
    let are : AreFree (is_within first (length marks)) (numbers ++ n ∷ []) = subst (AreFree (is_within first (length marks))) is list.free in
    let live = and_parts (is_within first (length marks) n) (not (is_among n numbers)) (next_live (is_within first (length marks)) numbers [] n are) in
    let inside = within first (length marks) n live.0 in
    let long = length-set marks (n - first) false in
    record {
      range = omega (arith, long, list.range);
      free = subst (λ m. AreFree (is_within first m) numbers) (sym long) (taken_free (is_within first (length marks)) numbers n are);
      marked = taken_marked first n marks numbers inside.0 inside.1 (subst (IsMarked first marks) is list.marked) (not_true (is_among n numbers) live.1);
      room = omega (arith, long, room);
    }

-- which is live then
pub last_live : (first n : ℕ) (marks : List Bool) (all numbers : List ℕ) → all ≡ numbers ++ n ∷ [] → AreFree (is_within first (length marks)) all
    → IsTrue (is_live (is_within first (length (slice_set marks (n - first) false))) numbers n)
last_live first n marks all numbers is are =
    subst (λ m. IsTrue (is_live (is_within first m) numbers n)) (sym (length-set marks (n - first) false))
    (next_live (is_within first (length marks)) numbers [] n (subst (AreFree (is_within first (length marks))) is are))

-- a live one is given
pub given : (first n old new : ℕ) (marks : List Bool) (all numbers : List ℕ) → all ≡ numbers ++ n ∷ [] → length marks ≤ new
    → IsTrue (is_live (is_within first (length marks)) numbers n) → IsFreeList (free_numbers first marks numbers) marks old
    → IsFreeList (free_numbers first (slice_set marks (n - first) true) all) (slice_set marks (n - first) true) new
given first n old new marks all numbers is room live list =
    let parts = and_parts (is_within first (length marks) n) (not (is_among n numbers)) live in
    let inside = within first (length marks) n parts.0 in
    let long = length-set marks (n - first) true in
    let are = given_free (is_within first (length marks)) numbers n list.free live in
    record {
      range = omega (arith, long, list.range);
      free = subst (λ m. AreFree (is_within first m) all) (sym long) (subst (AreFree (is_within first (length marks))) (sym is) are);
      marked = subst (IsMarked first (slice_set marks (n - first) true)) (sym is) (given_marked first n marks numbers inside.0 inside.1 list.marked);
      room = omega (arith, long, room);
    }

-- the next of the free numbers is live while only those before it are free
pub next_at : (in_pool : ℕ → Bool) (free : List ℕ) (i : ℕ) → i < length free → AreFree in_pool free → IsTrue (is_live in_pool (take i free) (slice_index free i))
next_at in_pool free i below are =
    let cut : free ≡ take i free ++ slice_index free i ∷ drop (suc i) free = sym (take-append-drop i free) ∙ ap (λ xs. take i free ++ xs) (drop-cons free i 0 below) in
    next_live in_pool (take i free) (drop (suc i) free) (slice_index free i) (subst (AreFree in_pool) cut are)
