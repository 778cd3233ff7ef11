-- What the numbers of a range give: one number that gives something more, and one number more.
use Rattle.std.proofs.Common.{◌≡◌, inl, inr, ℕ, zero, suc, ◌+◌, ◌≤◌, ◌<◌, List, [], ◌∷◌, ◌++◌, refl, sym, ap, subst, ◌∙◌, arith}
use Rattle.std.specs.Prelude.{Option, Some, None, IfSome}
use Rattle.std.specs.List.{AllByRecursion, filter_map, cons_option, range_with_len}
use Rattle.std.specs.List.Sorted.{IsPermutation}
use Rattle.std.proofs.lemmas.Bool.{cases_eq}
use Rattle.std.proofs.lemmas.List.Elements.{filter_map-append}
use Rattle.std.proofs.lemmas.List.Sorted.{IsPermutation-refl, IsPermutation-cons, IsPermutation-trans, IsPermutation-middle}

last_number : (from count n : ℕ) → from + count ≡ n → range_with_len from (suc count) ≡ range_with_len from count ++ n ∷ []
last_number from zero n e = let same : from ≡ n = omega (arith, e) in ap (λ k. k ∷ []) same
last_number from (suc count) n e = ap (λ l. from ∷ l) (last_number (from + 1) count n (omega (arith, e)))

module _ {A : Type 0} where
  -- one list is in its own order
  pub permutation-same : (xs ys : List A) → xs ≡ ys → IsPermutation xs ys
  permutation-same xs ys e = subst (IsPermutation xs) e (IsPermutation-refl xs)

  -- all items of the list pass
  pub all-cons_option : (P : A → Type 0) (o : Option A) (xs : List A) → IfSome o P → AllByRecursion P xs → AllByRecursion P (cons_option o xs)
  all-cons_option P None xs is all = all
  all-cons_option P (Some a) xs is all = (is, all)

  -- two functions that give the same on a range
  pub same_range : (f g : ℕ → Option A) (from count : ℕ) → ((m : ℕ) → from ≤ m → m < from + count → g m ≡ f m)
      → filter_map g (range_with_len from count) ≡ filter_map f (range_with_len from count)
  same_range f g from zero same = refl
  same_range f g from (suc count) same =
      ap (λ o. cons_option o (filter_map g (range_with_len (from + 1) count))) (same from (omega arith) (omega arith))
      ∙ ap (cons_option (f from)) (same_range f g (from + 1) count (λ m least below. same m (omega (arith, least)) (omega (arith, below))))

  -- what is true of all that the numbers give
  pub all_range : (P : A → Type 0) (f : ℕ → Option A) (from count : ℕ) → ((m : ℕ) → from ≤ m → m < from + count → IfSome (f m) P)
      → AllByRecursion P (filter_map f (range_with_len from count))
  all_range P f from zero each = tt
  all_range P f from (suc count) each =
      all-cons_option P (f from) (filter_map f (range_with_len (from + 1) count)) (each from (omega arith) (omega arith))
      (all_range P f (from + 1) count (λ m least below. each m (omega (arith, least)) (omega (arith, below))))

  behind : (o : Option A) (a : A) (more xs : List A) → IsPermutation more (a ∷ xs) → IsPermutation (cons_option o more) (a ∷ cons_option o xs)
  behind None a more xs h = h
  behind (Some b) a more xs h = IsPermutation-trans _ _ _ (IsPermutation-cons b more (a ∷ xs) h) (IsPermutation-middle (b ∷ []) a xs)

  first : (o p : Option A) (a : A) (more xs : List A) → o ≡ Some a → p ≡ None → more ≡ xs → cons_option o more ≡ a ∷ cons_option p xs
  first o p a more xs some none e = ap (λ q. cons_option q more) some ∙ ap (λ l. a ∷ l) (e ∙ ap (λ q. cons_option q xs) (sym none))

  -- a number of the range that gave nothing gives an item
  pub one_more : (f g : ℕ → Option A) (from count n : ℕ) (a : A) → from ≤ n → n < from + count → f n ≡ None → g n ≡ Some a
      → ((m : ℕ) → (m ≡ n → ⊥) → g m ≡ f m)
      → IsPermutation (filter_map g (range_with_len from count)) (a ∷ filter_map f (range_with_len from count))
  one_more f g from zero n a least below none some same = absurd (omega (arith, least, below))
  one_more f g from (suc count) n a least below none some same = elim (cases_eq from n) [
    | inl here ↦ permutation-same _ _ (first (g from) (f from) a _ _ (subst (λ k. g k ≡ Some a) (sym here) some) (subst (λ k. f k ≡ None) (sym here) none)
        (same_range f g (from + 1) count (λ m up to. same m (λ e. omega (arith, here, up, e)))))
    | inr other ↦ subst (λ o. IsPermutation (cons_option o (filter_map g (range_with_len (from + 1) count)))
        (a ∷ cons_option (f from) (filter_map f (range_with_len (from + 1) count)))) (sym (same from other))
        (behind (f from) a _ _ (one_more f g (from + 1) count n a (omega (arith, least, other)) (omega (arith, below)) none some same))
  ]

  -- one number more
  pub longer_range : (f : ℕ → Option A) (n : ℕ) → filter_map f (range_with_len 0 (suc n)) ≡ filter_map f (range_with_len 0 n) ++ cons_option (f n) []
  longer_range f n =
      ap (filter_map f) (last_number 0 n n (omega arith)) ∙ filter_map-append f (range_with_len 0 n) (n ∷ [])
