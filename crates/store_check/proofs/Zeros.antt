-- A record of pivots reads as no bytes exactly if it is zero.
use Rattle.std.proofs.Common.{◌≡◌, ℕ, zero, suc, ◌+◌, ◌*◌, ◌^◌, ◌≤◌, ◌<◌, Bool, true, false, ◌&&◌, List, [], ◌∷◌, length, take, drop, refl, sym, ap, ◌∙◌, arith}
use Rattle.std.specs.Prelude.{◌==◌, IsTrue, Some, if◌then◌else◌}
use Rattle.std.proofs.lemmas.Bool.Decides.{nat_tests}
use Rattle.std.proofs.lemmas.List.{length-take-le, length-drop}
use Rattle.page_laws.specs.Pages.{are_zero}
use Rattle.redo_journal.specs.Header.{leading_number}
use Rattle.object_file.specs.Slots.{Free, Holds, Broken, slot_of, slot_bytes}
use Rattle.store_check.specs.Pivots.{pivot_of}
use Rattle.store_check.proofs.Reading.{never, some_if}

record IsZeroHead (filled : Bool) (collection id : ℕ) (object : List ℕ) : Type 0 where
  filled_is : filled ≡ true
  collection_is : collection ≡ 0
  id_is : id ≡ 0
  object_is : object ≡ []

head_by : (free filled : Bool) (collection id : ℕ) (object : List ℕ) → pivot_of (if free then Free else if filled then Holds collection id object else Broken) ≡ Some []
    → IsZeroHead filled collection id object
head_by true filled collection id object is = absurd (never [] is)
head_by false false collection id object is = absurd (never [] is)
head_by false true collection id object is =
    let parts = some_if ((collection == 0) && (id == 0)) object [] is in
    let both : ((collection == 0) && (id == 0)) ≡ true = parts.0 in
    record {
      filled_is = refl;
      collection_is = grind (arith, nat_tests, both);
      id_is = grind (arith, nat_tests, both);
      object_is = parts.1;
    }

nothing_taken : (n x : ℕ) (xs : List ℕ) → take n (x ∷ xs) ≡ [] → n ≡ 0
nothing_taken zero x xs is = refl
nothing_taken (suc n) x xs is = let none : suc (length (take n xs)) ≡ 0 = ap length is in absurd (omega (arith, none))

module _ (a b c d e f g h x : ℕ) (xs : List ℕ) where
  abbrev bytes : List ℕ
  bytes = a ∷ b ∷ c ∷ d ∷ e ∷ f ∷ g ∷ h ∷ x ∷ xs

  read_zero : pivot_of (slot_of bytes) ≡ Some [] → are_zero bytes ≡ true
  unfolding slot_of are_zero leading_number
  read_zero is =
      let head = head_by _ _ a _ (take b (x ∷ xs)) is in
      let none : b ≡ 0 = nothing_taken b x xs head.object_is in
      let filled = head.filled_is in
      let id : e * 256 ^ 3 + (f * 256 ^ 2 + (g * 256 ^ 1 + (h * 256 ^ 0 + 0))) ≡ 0 = head.id_is in
      let e0 : e ≡ 0 = omega (arith, id) in
      let f0 : f ≡ 0 = omega (arith, id) in
      let g0 : g ≡ 0 = omega (arith, id) in
      let h0 : h ≡ 0 = omega (arith, id) in
      let back : are_zero (drop (8 + b) bytes) ≡ true = grind (arith, filled) in
      let rest : are_zero (x ∷ xs) ≡ true = sym (ap (λ n. are_zero (drop (8 + n) bytes)) none) ∙ back in
      let gap : are_zero (c ∷ d ∷ []) ≡ true = grind (arith, filled) in
      let first : a ≡ 0 = head.collection_is in
      grind (arith, nat_tests, first, none, gap, e0, f0, g0, h0, rest)

  zero_reads : are_zero bytes ≡ true → pivot_of (slot_of bytes) ≡ Some []
  unfolding slot_of are_zero leading_number
  zero_reads is =
      let a0 : a ≡ 0 = grind (arith, nat_tests, is) in
      let b0 : b ≡ 0 = grind (arith, nat_tests, is) in
      let c0 : c ≡ 0 = grind (arith, nat_tests, is) in
      let d0 : d ≡ 0 = grind (arith, nat_tests, is) in
      let e0 : e ≡ 0 = grind (arith, nat_tests, is) in
      let f0 : f ≡ 0 = grind (arith, nat_tests, is) in
      let g0 : g ≡ 0 = grind (arith, nat_tests, is) in
      let h0 : h ≡ 0 = grind (arith, nat_tests, is) in
      let rest : are_zero (x ∷ xs) ≡ true = grind (arith, is) in
      (λ i. pivot_of (slot_of (a0 i ∷ b0 i ∷ c0 i ∷ d0 i ∷ e0 i ∷ f0 i ∷ g0 i ∷ h0 i ∷ x ∷ xs)))
      ∙ (λ i. pivot_of (if true && true && true && rest i then Holds 0 0 [] else Broken))

-- the same of any bytes of a record
abbrev ReadsZero : List ℕ → Type 0
ReadsZero bytes = (pivot_of (slot_of bytes) ≡ Some [] → IsTrue (are_zero bytes)) × (IsTrue (are_zero bytes) → pivot_of (slot_of bytes) ≡ Some [])

both : (bytes : List ℕ) → 9 ≤ length bytes → ReadsZero bytes
both [] long = absurd (omega (arith, long))
both (a ∷ []) long = absurd (omega (arith, long))
both (a ∷ b ∷ []) long = absurd (omega (arith, long))
both (a ∷ b ∷ c ∷ []) long = absurd (omega (arith, long))
both (a ∷ b ∷ c ∷ d ∷ []) long = absurd (omega (arith, long))
both (a ∷ b ∷ c ∷ d ∷ e ∷ []) long = absurd (omega (arith, long))
both (a ∷ b ∷ c ∷ d ∷ e ∷ f ∷ []) long = absurd (omega (arith, long))
both (a ∷ b ∷ c ∷ d ∷ e ∷ f ∷ g ∷ []) long = absurd (omega (arith, long))
both (a ∷ b ∷ c ∷ d ∷ e ∷ f ∷ g ∷ h ∷ []) long = absurd (omega (arith, long))
both (a ∷ b ∷ c ∷ d ∷ e ∷ f ∷ g ∷ h ∷ x ∷ xs) long = (read_zero a b c d e f g h x xs, zero_reads a b c d e f g h x xs)

record_long : (page : List ℕ) (place : ℕ) → length page ≡ 512 → place < 4 → length (slot_bytes page place) ≡ 128
unfolding slot_bytes
record_long page place whole few = length-take-le 128 (drop (128 * place) page) (omega (arith, whole, few, length-drop (128 * place) page))

pub zero_records : (page : List ℕ) (place : ℕ) → length page ≡ 512 → place < 4 → ReadsZero (slot_bytes page place)
zero_records page place whole few = both (slot_bytes page place) (omega (arith, record_long page place whole few))
