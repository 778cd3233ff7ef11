-- What a verdict says of the distance of two objects, whatever test of their vectors it comes from.
use Rattle.std.proofs.Common.{◌≡◌, ℕ, ◌≤◌, Bool, true, false, refl, sym, ap, ◌∙◌, arith}
use Rattle.std.specs.Prelude.{◌&&◌, not, nat_le}
use Rattle.std.proofs.lemmas.Bool.Decides.{nat_tests}
use Rattle.pivot_map.specs.declared.verdict.PairTest.{PairTest}
use Rattle.pivot_map.specs.declared.verdict.PairTest.TheVariants.{Apart, Open, Sure}
use Rattle.pivot_map.specs.Verdicts.{IsTestOf}
use Rattle.query_pass.specs.Verdicts.{verdict_of, is_within, was_measured, was_sure}

le_from : (a b : ℕ) → nat_le a b ≡ true → a ≤ b
le_from a b h = grind (arith, nat_tests)

le_to : (a b : ℕ) → a ≤ b → nat_le a b ≡ true
le_to a b h = grind (arith, nat_tests)

never : (within met : Bool) → (within ≡ true → met ≡ true) → met ≡ false → false ≡ within
never false met near far = refl
never true met near far = sym (sym (near refl) ∙ far)

within_of : (test : PairTest) (met sure within : Bool) → IsTestOf test met sure → (within ≡ true → met ≡ true) → (sure ≡ true → within ≡ true)
    → is_within (verdict_of test within) ≡ within
within_of Apart met sure within tells near safe = never within met near tells
within_of Open met sure within tells near safe = refl
within_of Sure met sure within tells near safe = sym (safe tells.1)

-- the verdict is within exactly if the objects are, if objects within the radius meet and sure ones are within it
pub verdict-within : (test : PairTest) (met sure : Bool) (distance radius : ℕ) → IsTestOf test met sure → (distance ≤ radius → met ≡ true)
    → (sure ≡ true → distance ≤ radius) → is_within (verdict_of test (nat_le distance radius)) ≡ nat_le distance radius
verdict-within test met sure distance radius tells near safe =
    within_of test met sure (nat_le distance radius) tells (λ within. near (le_from distance radius within)) (λ h. le_to distance radius (safe h))

-- the objects are measured exactly if they meet and aren't sure
pub verdict-measured : (test : PairTest) (met sure within : Bool) → IsTestOf test met sure → was_measured (verdict_of test within) ≡ (met && not sure)
verdict-measured Apart met sure within tells = sym (ap (λ met. met && not sure) tells)
verdict-measured Open met sure within tells = sym (ap (λ met. met && not sure) tells.0 ∙ ap (λ sure. not sure) tells.1)
verdict-measured Sure met sure within tells = sym (ap (λ met. met && not sure) tells.0 ∙ ap (λ sure. not sure) tells.1)

-- the verdict is sure exactly if the objects meet and are sure
pub verdict-sure : (test : PairTest) (met sure within : Bool) → IsTestOf test met sure → was_sure (verdict_of test within) ≡ (met && sure)
verdict-sure Apart met sure within tells = sym (ap (λ met. met && sure) tells)
verdict-sure Open met sure within tells = sym (ap (λ met. met && sure) tells.0 ∙ tells.1)
verdict-sure Sure met sure within tells = sym (ap (λ met. met && sure) tells.0 ∙ tells.1)
