-- What slots hold when one of them is filled or cleared, and when one more is read.
use Rattle.std.proofs.Common.{◌≡◌, ℕ, suc, ◌<◌, ◌==◌, true, false, List, [], ◌∷◌, ◌++◌, refl, sym, ap, subst, ◌∙◌, arith}
use Rattle.std.specs.Prelude.{None, IfSome, if◌then◌else◌}
use Rattle.std.specs.List.{AllByRecursion, cons_option}
use Rattle.std.specs.List.Sorted.{IsPermutation}
use Rattle.std.proofs.lemmas.Bool.Decides.{nat_tests}
use Rattle.std.proofs.lemmas.List.{append-nil}
use Rattle.std.proofs.lemmas.List.Sorted.{IsPermutation-to_front}
use Rattle.object_file.specs.Slots.{Slot, Free, Holds, Broken}
use Rattle.store_check.specs.Stands.{Placed, placed_of, placed_in}
use Rattle.slot_laws.specs.Ranges.{all_range, one_more, longer_range}

-- what a slot of this number holds
abbrev pub placed_here : ℕ → ℕ → ℕ → List ℕ → Placed
placed_here slot c id object = record { slot = slot; collection = c; id = id; object = object }

-- the slots, of which one is free
abbrev pub with_free : (ℕ → Slot) → ℕ → ℕ → Slot
with_free slots slot n = if n == slot then Free else slots n

-- a filled slot isn't free, and isn't broken
pub not_free : (c id : ℕ) (object : List ℕ) → Free ≡ Holds c id object → ⊥
not_free c id object e = cc

-- a slot is filled, and the others are the same
pub placed_more : (cap slot c id : ℕ) (object : List ℕ) (old new : ℕ → Slot) → slot < cap → old slot ≡ Free → new slot ≡ Holds c id object
    → ((n : ℕ) → (n ≡ slot → ⊥) → new n ≡ old n) → IsPermutation (placed_in cap new) (placed_here slot c id object ∷ placed_in cap old)
unfolding placed_in
placed_more cap slot c id object old new below free filled others =
    one_more (λ n. placed_of n (old n)) (λ n. placed_of n (new n)) 0 cap slot (placed_here slot c id object) (omega arith) (omega (arith, below))
    (ap (placed_of slot) free) (ap (placed_of slot) filled) (λ n other. ap (placed_of n) (others n other))

freed : (slots : ℕ → Slot) (slot : ℕ) → with_free slots slot slot ≡ Free
freed slots slot = let same : (slot == slot) ≡ true = grind (arith, nat_tests) in ap (λ b. if b then Free else slots slot) same

as_before : (slots : ℕ → Slot) (slot n : ℕ) → (n ≡ slot → ⊥) → slots n ≡ with_free slots slot n
as_before slots slot n other =
    let differs : (n == slot) ≡ false = grind (arith, nat_tests, other) in ap (λ b. if b then Free else slots n) (sym differs)

-- what a filled slot holds, and what the others hold
pub placed_apart : (cap slot c id : ℕ) (object : List ℕ) (slots : ℕ → Slot) → slot < cap → slots slot ≡ Holds c id object
    → IsPermutation (placed_in cap slots) (placed_here slot c id object ∷ placed_in cap (with_free slots slot))
placed_apart cap slot c id object slots below filled =
    placed_more cap slot c id object (with_free slots slot) slots below (freed slots slot) filled (as_before slots slot)

-- what is placed is in its slot
abbrev pub IsInSlot : ℕ → (ℕ → Slot) → Placed → Type 0
IsInSlot cap slots p = (p.slot < cap) × (slots p.slot ≡ Holds p.collection p.id p.object)

in_slot : (cap n : ℕ) (slots : ℕ → Slot) (s : Slot) → n < cap → slots n ≡ s → IfSome (placed_of n s) (IsInSlot cap slots)
in_slot cap n slots Free below is = tt
in_slot cap n slots (Holds c id object) below is = (below, is)
in_slot cap n slots Broken below is = tt

pub all_in_slots : (cap : ℕ) (slots : ℕ → Slot) → AllByRecursion (IsInSlot cap slots) (placed_in cap slots)
unfolding placed_in
all_in_slots cap slots = all_range (IsInSlot cap slots) (λ n. placed_of n (slots n)) 0 cap (λ n least below. in_slot cap n slots (slots n) (omega (arith, below)) refl)

-- ---- one slot more

pub placed_next : (n : ℕ) (slots : ℕ → Slot) → placed_in (suc n) slots ≡ placed_in n slots ++ cons_option (placed_of n (slots n)) []
unfolding placed_in
placed_next n slots = longer_range (λ m. placed_of m (slots m)) n

-- a slot that holds nothing
pub placed_past : (n : ℕ) (slots : ℕ → Slot) → placed_of n (slots n) ≡ None → placed_in (suc n) slots ≡ placed_in n slots
placed_past n slots none = placed_next n slots ∙ ap (λ o. placed_in n slots ++ cons_option o []) none ∙ append-nil (placed_in n slots)

-- a filled one
pub placed_with : (n c id : ℕ) (object : List ℕ) (slots : ℕ → Slot) → slots n ≡ Holds c id object
    → IsPermutation (placed_in (suc n) slots) (placed_here n c id object ∷ placed_in n slots)
placed_with n c id object slots filled =
    let whole : placed_in (suc n) slots ≡ placed_in n slots ++ placed_here n c id object ∷ [] =
    placed_next n slots ∙ ap (λ s. placed_in n slots ++ cons_option (placed_of n s) []) filled in
    subst (λ l. IsPermutation l (placed_here n c id object ∷ placed_in n slots)) (sym whole) (IsPermutation-to_front (placed_in n slots) (placed_here n c id object))

-- without slots nothing is placed
pub placed_none : (slots : ℕ → Slot) → placed_in 0 slots ≡ []
unfolding placed_in
placed_none slots = refl
