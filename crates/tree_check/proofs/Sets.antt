-- One page more in a set.
use Rattle.std.proofs.Common.{◌≡◌, inl, inr, ℕ, ◌+◌, ◌-◌, ◌<◌, ◌≤◌, ◌==◌, Bool, true, false, ◌&&◌, ◌||◌, [], ◌∷◌, length, refl, sym, ap, subst, ◌∙◌, arith, slice_index_or, slice_set}
use Rattle.std.specs.Prelude.{IsTrue, nat_le, nat_lt, cond, not}
use Rattle.std.proofs.lemmas.Bool.{cases_eq, and_parts, false≢true}
use Rattle.std.proofs.lemmas.Bool.Decides.{nat_tests}
use Rattle.std.proofs.lemmas.List.{get_or-set_same, get_or-set_other, length-set}
use Rattle.bptree_edit.specs.NodesAt.{times}
use Rattle.bptree_edit.proofs.Counts.{times-cons, times-none, one_if}
use Rattle.tree_check.specs.PageSets.{Marks, covers, has, uses}

or_true : (b : Bool) → (b || true) ≡ true
or_true true = refl
or_true false = refl

or_false : (b : Bool) → (b || false) ≡ b
or_false true = refl
or_false false = refl

and_same : (a b c : Bool) → (a ≡ true → b ≡ c) → (a && b) ≡ (a && c)
and_same true b c same = same refl
and_same false b c same = refl

-- the set with one page more
abbrev pub marked : Marks → ℕ → Marks
marked s n = record { first = s.first; marks = slice_set s.marks (n - s.first) true }

module _ (s : Marks) (n : ℕ) (is : IsTrue (covers s n)) where
  inside : (s.first ≤ n) × (n < s.first + length s.marks)
  inside =
      let parts = and_parts (nat_le s.first n) (nat_lt n (s.first + length s.marks)) is in
      (grind (arith, nat_tests, parts.0), grind (arith, nat_tests, parts.1))

  place : n - s.first < length s.marks
  place = omega (arith, inside.0, inside.1)

  covers-same : (m : ℕ) → covers (marked s n) m ≡ covers s m
  covers-same m = ap (λ (k : ℕ). nat_le s.first m && nat_lt m (s.first + k)) (length-set s.marks (n - s.first) true)

  has-other : (m : ℕ) → (n ≡ m → ⊥) → has (marked s n) m ≡ has s m
  unfolding has
  has-other m other =
      ap (λ (b : Bool). b && slice_index_or (slice_set s.marks (n - s.first) true) (m - s.first) false) (covers-same m)
      ∙ and_same (covers s m) (slice_index_or (slice_set s.marks (n - s.first) true) (m - s.first) false) (slice_index_or s.marks (m - s.first) false) (λ within.
      let parts = and_parts (nat_le s.first m) (nat_lt m (s.first + length s.marks)) within in
      let least : s.first ≤ m = grind (arith, nat_tests, parts.0) in
      get_or-set_other s.marks (n - s.first) (m - s.first) true false (λ same. other (omega (arith, same, least, inside.0))))

  has-same : has (marked s n) n ≡ true
  unfolding has
  has-same =
      ap (λ (b : Bool). b && slice_index_or (slice_set s.marks (n - s.first) true) (n - s.first) false) (covers-same n ∙ is)
      ∙ get_or-set_same s.marks (n - s.first) true false place

  pub members : (m : ℕ) → has (marked s n) m ≡ (has s m || (n == m))
  members m = elim (cases_eq n m) [
    | inl same ↦
        let here : (n == m) ≡ true = grind (arith, nat_tests, same) in
        subst (λ (k : ℕ). has (marked s n) k ≡ true) same has-same ∙ sym (ap (λ (b : Bool). has s m || b) here ∙ or_true (has s m))
    | inr other ↦
        let there : (n == m) ≡ false = grind (arith, nat_tests, other) in
        has-other m other ∙ sym (ap (λ (b : Bool). has s m || b) there ∙ or_false (has s m))
  ]

-- a page that is new in the set is there once more
pub uses-more : (old new : Marks) (n m : ℕ) → (has new m ≡ (has old m || (n == m))) → has old n ≡ false → uses new m ≡ uses old m + times m (n ∷ [])
uses-more old new n m is fresh = elim (cases_eq n m) [
  | inl same ↦
      let here : (n == m) ≡ true = grind (arith, nat_tests, same) in
      let was : has old m ≡ false = subst (λ (k : ℕ). has old k ≡ false) same fresh in
      let now : has new m ≡ true = is ∙ ap (λ (b : Bool). has old m || b) here ∙ or_true (has old m) in
      let one : uses new m ≡ 1 = ap (λ (b : Bool). cond b 1 0) now in
      let none : uses old m ≡ 0 = ap (λ (b : Bool). cond b 1 0) was in
      let hit : one_if n m ≡ 1 = ap (λ (b : Bool). cond b 1 0) here in
      omega (arith, one, none, hit, times-cons m n [], times-none m)
  | inr other ↦
      let there : (n == m) ≡ false = grind (arith, nat_tests, other) in
      let now : uses new m ≡ uses old m = ap (λ (b : Bool). cond b 1 0) (is ∙ ap (λ (b : Bool). has old m || b) there ∙ or_false (has old m)) in
      let miss : one_if n m ≡ 0 = ap (λ (b : Bool). cond b 1 0) there in
      omega (arith, now, miss, times-cons m n [], times-none m)
]

-- what a negated test says
pub was_there : (b : Bool) → not b ≡ false → b ≡ true
was_there true is = refl
was_there false is = absurd (false≢true (sym is))

pub was_new : (b : Bool) → not b ≡ true → b ≡ false
was_new true is = absurd (false≢true is)
was_new false is = refl
