-- Lists made from numbers in turn.
use Rattle.std.proofs.Common.{◌≡◌, ℕ, zero, suc, ◌+◌, ◌<◌, ◌∷◌, ◌++◌, map, refl, sym, ap, ◌∙◌, arith}
use Rattle.std.specs.List.{range_with_len}

module _ {X : Type 0} where
  -- two lists of as many items, which are equal one by one
  pub map-range-same : (f g : ℕ → X) (a b n : ℕ) → ((k : ℕ) → k < n → f (a + k) ≡ g (b + k)) → map f (range_with_len a n) ≡ map g (range_with_len b n)
  map-range-same f g a b zero same = refl
  map-range-same f g a b (suc n) same =
      let left : a + 0 ≡ a = omega arith in
      let right : b + 0 ≡ b = omega arith in
      let first : f a ≡ g b = ap f (sym left) ∙ same 0 (omega arith) ∙ ap g right in
      let rest : map f (range_with_len (a + 1) n) ≡ map g (range_with_len (b + 1) n) =
      map-range-same f g (a + 1) (b + 1) n (λ k less.
      let on_left : a + 1 + k ≡ a + suc k = omega arith in
      let on_right : b + suc k ≡ b + 1 + k = omega arith in
      ap f on_left ∙ same (suc k) (omega (arith, less)) ∙ ap g on_right) in
      ap (λ x. x ∷ map f (range_with_len (a + 1) n)) first ∙ ap (λ xs. g b ∷ xs) rest

  -- the first items, and the others
  pub map-range-parts : (f : ℕ → X) (a m n : ℕ) → map f (range_with_len a (m + n)) ≡ map f (range_with_len a m) ++ map f (range_with_len (a + m) n)
  map-range-parts f a zero n =
      let none : a + 0 ≡ a = omega arith in
      let all : 0 + n ≡ n = omega arith in
      ap (λ m. map f (range_with_len a m)) all ∙ ap (λ b. map f (range_with_len b n)) (sym none)
  map-range-parts f a (suc m) n =
      let more : a + 1 + m ≡ a + suc m = omega arith in
      let count : suc m + n ≡ suc (m + n) = omega arith in
      ap (λ k. map f (range_with_len a k)) count
      ∙ ap (λ xs. f a ∷ xs) (map-range-parts f (a + 1) m n)
      ∙ ap (λ b. f a ∷ map f (range_with_len (a + 1) m) ++ map f (range_with_len b n)) more
