-- Laws of the free slots.
use Rattle.std.proofs.Common.{◌≡◌, inl, inr, ℕ, zero, suc, ◌+◌, ◌≤◌, ◌<◌, ◌==◌, Bool, true, false, not, ◌&&◌, ◌||◌, List, [], ◌∷◌, length, refl, sym, ap, subst, ◌∙◌, arith}
use Rattle.std.specs.Prelude.{IsTrue}
use Rattle.std.specs.List.{AllByRecursion, IsDistinct}
use Rattle.std.specs.List.Sorted.{IsPermutation}
use Rattle.std.specs.Set.{is_member}
use Rattle.std.proofs.lemmas.Bool.{cases_eq, cases_lt, false≢true, true≢false}
use Rattle.std.proofs.lemmas.Bool.Decides.{nat_tests}
use Rattle.std.proofs.lemmas.Cmp.{nat_eq_equiv}
use Rattle.std.proofs.lemmas.List.{length-map}
use Rattle.std.proofs.lemmas.List.Elements.{recursion_from_All, All-from_recursion}
use Rattle.std.proofs.lemmas.List.Sorted.{IsPermutation-refl, IsPermutation-sym, All-permutation, length_permutation, list_any-IsPermutation}
use Rattle.std.proofs.lemmas.Map.Keys.{IsDistinct-cons, IsDistinct-head, IsDistinct-tail, IsDistinct-IsPermutation}
use Rattle.std.proofs.lemmas.Map.Made.{length-from_same_keys}
use Rattle.page_laws.specs.Pages.{is_among, is_live, AreFree}
use Rattle.page_laws.specs.FreeLaws.{among_all}
use Rattle.metrics_builtin.specs.declared.Space.{Space}
use Rattle.spb_defs.specs.State.{Members}
use Rattle.answer_lists.specs.OrderLaws.{sorted_by-length}
use Rattle.scan_laws.specs.Tables.{key_before}
use Rattle.object_file.specs.Slots.{Slot, Free, Holds, Broken}
use Rattle.object_file.specs.ObjectFile.{is_slot, slot_at, SetsSlot}
use Rattle.store_check.specs.Stands.{placed_of, placed_in, placed, placed_members, member_of, IsReadable, HoldsMembers}
use Rattle.slot_laws.specs.FreeSlots.{is_free, AreFreeSlots}
use Rattle.slot_laws.specs.PlacedLaws.{placed_here, placed_past, placed_with, placed_none}

-- ---- numbers

same_number : (n m : ℕ) → n ≡ m → (m == n) ≡ true
same_number n m e = grind (arith, nat_tests, e)

other_number : (n m : ℕ) → (n ≡ m → ⊥) → (m == n) ≡ false
other_number n m other = grind (arith, nat_tests, other)

-- none of numbers apart from one is that one
apart_is_no : (n : ℕ) (xs : List ℕ) → AllByRecursion (λ m. (n == m) ≡ false) xs → is_among n xs ≡ false
apart_is_no n [] all = refl
apart_is_no n (x ∷ xs) all = ap (λ b. b || is_among n xs) (nat_eq_equiv.symm x n ∙ all.0) ∙ apart_is_no n xs all.1

no_is_apart : (n : ℕ) (xs : List ℕ) → is_among n xs ≡ false → AllByRecursion (λ m. (n == m) ≡ false) xs
no_is_apart n [] absent = tt
no_is_apart n (x ∷ xs) absent =
    let parts = neither (x == n) (is_among n xs) absent in (nat_eq_equiv.symm n x ∙ parts.0, no_is_apart n xs parts.1)
  where
    neither : (a b : Bool) → (a || b) ≡ false → (a ≡ false) × (b ≡ false)
    neither true b is = absurd (true≢false is)
    neither false b is = (refl, is)

turned : (n : ℕ) (xs : List ℕ) → is_member (λ a b. a == b) xs n ≡ is_among n xs
turned n [] = refl
turned n (x ∷ xs) = ap (λ b. b || is_member (λ a b. a == b) xs n) (nat_eq_equiv.symm n x) ∙ ap (λ b. (x == n) || b) (turned n xs)

all_weaker : (P Q : ℕ → Type 0) (xs : List ℕ) → ((n : ℕ) → P n → Q n) → AllByRecursion P xs → AllByRecursion Q xs
all_weaker P Q [] weaker all = tt
all_weaker P Q (x ∷ xs) weaker all = (weaker x all.0, all_weaker P Q xs weaker all.1)

-- free numbers in another order
pub free_moved : (in_pool : ℕ → Bool) (xs ys : List ℕ) → IsPermutation xs ys → AreFree in_pool xs → AreFree in_pool ys
free_moved in_pool xs ys moved are = record {
  pool = recursion_from_All (λ n. IsTrue (in_pool n)) ys (All-permutation (λ n. IsTrue (in_pool n)) xs ys moved
      (All-from_recursion (λ n. IsTrue (in_pool n)) xs are.pool));
  distinct = IsDistinct-IsPermutation (λ a b. a == b) nat_eq_equiv.symm xs ys moved are.distinct;
}

among_moved : (n : ℕ) (xs ys : List ℕ) → IsPermutation xs ys → is_among n xs ≡ is_among n ys
among_moved n xs ys moved = list_any-IsPermutation (λ m. m == n) xs ys moved

-- ---- a list of which one number is apart

-- the first of free numbers isn't among the others, and they are free
pub free_without : (in_pool : ℕ → Bool) (free rest : List ℕ) (n : ℕ) → IsPermutation free (n ∷ rest) → AreFree in_pool free
    → (is_among n rest ≡ false) × IsTrue (in_pool n) × AreFree in_pool rest
free_without in_pool free rest n moved are =
    let all = free_moved in_pool free (n ∷ rest) moved are in (
      apart_is_no n rest (IsDistinct-head (λ a b. a == b) n rest all.distinct),
      all.pool.0,
      record { pool = all.pool.1; distinct = IsDistinct-tail (λ a b. a == b) n rest all.distinct },
    )

-- another number joins free ones
pub free_with : (in_pool : ℕ → Bool) (free rest : List ℕ) (n : ℕ) → IsPermutation free (n ∷ rest) → AreFree in_pool rest → is_among n rest ≡ false
    → IsTrue (in_pool n) → AreFree in_pool free
free_with in_pool free rest n moved are absent inside = free_moved in_pool (n ∷ rest) free (IsPermutation-sym free (n ∷ rest) moved)
    (record { pool = (inside, are.pool); distinct = IsDistinct-cons (λ a b. a == b) n rest (no_is_apart n rest absent) are.distinct })

among_first : (n m : ℕ) (free rest : List ℕ) → IsPermutation free (n ∷ rest) → n ≡ m → is_among m free ≡ true
among_first n m free rest moved e = among_moved m free (n ∷ rest) moved ∙ ap (λ b. b || is_among m rest) (subst (λ k. (n == k) ≡ true) e (same_number n n refl))

among_other : (n m : ℕ) (free rest : List ℕ) → IsPermutation free (n ∷ rest) → (m ≡ n → ⊥) → is_among m free ≡ is_among m rest
among_other n m free rest moved other = among_moved m free (n ∷ rest) moved ∙ ap (λ b. b || is_among m rest) (other_number m n other)

-- ---- free slots

below : (cap n : ℕ) → IsTrue (is_slot cap n) → n < cap
below cap n is = grind (arith, nat_tests, is)

is_below : (cap n : ℕ) → n < cap → IsTrue (is_slot cap n)
is_below cap n less = grind (arith, nat_tests, less)

-- a slot that isn't there is not among the free ones
pub none_above : (cap : ℕ) (slots : ℕ → Slot) (free : List ℕ) (n : ℕ) → AreFreeSlots cap slots free → cap ≤ n → is_among n free ≡ false
none_above cap slots free n are least = by (is_among n free) refl
  where
    by : (b : Bool) → is_among n free ≡ b → is_among n free ≡ false
    by true is = absurd (omega (arith, least, below cap n (among_all (λ m. IsTrue (is_slot cap m)) n free are.are.pool is)))
    by false is = is

free_slot : (s : Slot) → is_free s ≡ true → s ≡ Free
free_slot Free is = refl
free_slot (Holds c id object) is = absurd (false≢true is)
free_slot Broken is = absurd (false≢true is)

-- a slot among the free ones reads as free
pub free_slots_read_as_free : (cap : ℕ) (slots : ℕ → Slot) (free rest : List ℕ) (slot : ℕ) → AreFreeSlots cap slots free → IsPermutation free (slot ∷ rest)
    → (slot < cap) × (slots slot ≡ Free)
free_slots_read_as_free cap slots free rest slot are moved =
    let inside = below cap slot (free_without (is_slot cap) free rest slot moved are.are).1 in
    (inside, free_slot (slots slot) (sym (are.each slot inside) ∙ among_first slot slot free rest moved refl))

-- a filled slot isn't among them
pub filled_slots_are_live : (cap : ℕ) (slots : ℕ → Slot) (free : List ℕ) (slot c id : ℕ) (object : List ℕ) → AreFreeSlots cap slots free → slot < cap
    → slots slot ≡ Holds c id object → IsTrue (is_live (is_slot cap) free slot)
filled_slots_are_live cap slots free slot c id object are less filled =
    let absent : is_among slot free ≡ false = are.each slot less ∙ ap is_free filled in
    ap (λ b. is_slot cap slot && not b) absent ∙ ap (λ b. b && true) (is_below cap slot less)

-- the slot is no longer free
pub taken : (cap : ℕ) (old new : ℕ → Slot) (free rest : List ℕ) (slot : ℕ) → AreFreeSlots cap old free → IsPermutation free (slot ∷ rest)
    → is_free (new slot) ≡ false → ((n : ℕ) → (n ≡ slot → ⊥) → new n ≡ old n) → AreFreeSlots cap new rest
taken cap old new free rest slot are moved now others =
    let parts = free_without (is_slot cap) free rest slot moved are.are in
    record {
      are = parts.2;
      each = λ n less. elim (cases_eq n slot) [
        | inl here ↦ subst (λ k. is_among k rest ≡ is_free (new k)) (sym here) (parts.0 ∙ sym now)
        | inr other ↦ sym (among_other slot n free rest moved other) ∙ are.each n less ∙ ap is_free (sym (others n other))
      ];
    }

-- the slot is free now
pub given : (cap : ℕ) (old new : ℕ → Slot) (free rest : List ℕ) (slot : ℕ) → AreFreeSlots cap old rest → IsPermutation free (slot ∷ rest) → slot < cap
    → is_free (old slot) ≡ false → is_free (new slot) ≡ true → ((n : ℕ) → (n ≡ slot → ⊥) → new n ≡ old n) → AreFreeSlots cap new free
given cap old new free rest slot are moved less before now others = record {
  are = free_with (is_slot cap) free rest slot moved are.are (are.each slot less ∙ before) (is_below cap slot less);
  each = λ n inside. elim (cases_eq n slot) [
    | inl here ↦ among_first slot n free rest moved (sym here) ∙ sym (ap (λ k. is_free (new k)) here ∙ now)
    | inr other ↦ among_other slot n free rest moved other ∙ are.each n inside ∙ ap is_free (sym (others n other))
  ];
}

-- a filled slot was taken from the free ones
pub filling_takes_a_free_slot : (cap slot c id : ℕ) (object : List ℕ) (old new : ℕ → List ℕ) (free rest : List ℕ) → AreFreeSlots cap (slot_at old) free
    → IsPermutation free (slot ∷ rest) → SetsSlot slot (Holds c id object) old new → AreFreeSlots cap (slot_at new) rest
filling_takes_a_free_slot cap slot c id object old new free rest are moved sets =
    taken cap (slot_at old) (slot_at new) free rest slot are moved (ap is_free sets.here) sets.others

-- a cleared slot joins them
pub clearing_frees_a_slot : (cap slot c id : ℕ) (object : List ℕ) (old new : ℕ → List ℕ) (free more : List ℕ) → AreFreeSlots cap (slot_at old) free
    → slot < cap → slot_at old slot ≡ Holds c id object → IsPermutation more (slot ∷ free) → SetsSlot slot Free old new → AreFreeSlots cap (slot_at new) more
clearing_frees_a_slot cap slot c id object old new free more are less filled moved sets =
    given cap (slot_at old) (slot_at new) more free slot are moved less (ap is_free filled) (ap is_free sets.here) sets.others

-- ---- one slot more

weaker_slots : (n : ℕ) (free : List ℕ) → AreFree (is_slot n) free → AreFree (is_slot (suc n)) free
weaker_slots n free are = record {
  pool = all_weaker (λ m. IsTrue (is_slot n m)) (λ m. IsTrue (is_slot (suc n) m)) free
      (λ m is. is_below (suc n) m (omega (arith, below n m is))) are.pool;
  distinct = are.distinct;
}

-- a slot that isn't free
pub not_free_next : (n : ℕ) (slots : ℕ → Slot) (free : List ℕ) → AreFreeSlots n slots free → is_free (slots n) ≡ false → AreFreeSlots (suc n) slots free
not_free_next n slots free are filled = record {
  are = weaker_slots n free are.are;
  each = λ m less. elim (cases_eq m n) [
    | inl here ↦ none_above n slots free m are (omega (arith, here)) ∙ sym (ap (λ k. is_free (slots k)) here ∙ filled)
    | inr other ↦ are.each m (omega (arith, less, other))
  ];
}

-- a free one
pub free_next : (n : ℕ) (slots : ℕ → Slot) (free more : List ℕ) → AreFreeSlots n slots free → slots n ≡ Free → IsPermutation more (n ∷ free)
    → AreFreeSlots (suc n) slots more
free_next n slots free more are is moved = record {
  are = free_with (is_slot (suc n)) more free n moved (weaker_slots n free are.are) (none_above n slots free n are (omega arith)) (is_below (suc n) n (omega arith));
  each = λ m less. elim (cases_eq m n) [
    | inl here ↦ among_first n m more free moved (sym here) ∙ sym (ap (λ k. is_free (slots k)) here ∙ ap is_free is)
    | inr other ↦ among_other n m more free moved other ∙ are.each m (omega (arith, less, other))
  ];
}

pub no_free_slots : (slots : ℕ → Slot) → AreFreeSlots 0 slots []
unfolding IsDistinct
no_free_slots slots = record { are = record { pool = tt; distinct = tt }; each = λ slot less. absurd (omega (arith, less)) }

-- ---- the count

-- two lists of the free slots are as long
pub free_slots_as_many : (cap : ℕ) (slots : ℕ → Slot) (xs ys : List ℕ) → AreFreeSlots cap slots xs → AreFreeSlots cap slots ys → length xs ≡ length ys
free_slots_as_many cap slots xs ys a b = length-from_same_keys nat_eq_equiv xs ys a.are.distinct b.are.distinct
    (λ q. turned q xs ∙ same q ∙ sym (turned q ys))
  where
    same : (q : ℕ) → is_among q xs ≡ is_among q ys
    same q = elim (cases_lt q cap) [
      | inl less ↦ a.each q less ∙ sym (b.each q less)
      | inr least ↦ none_above cap slots xs q a least ∙ sym (none_above cap slots ys q b least)
    ]

free_if : Slot → ℕ → List ℕ → List ℕ
free_if Free n more = n ∷ more
free_if (Holds c id object) n more = more
free_if Broken n more = more

free_below : ℕ → (ℕ → Slot) → List ℕ
free_below zero slots = []
free_below (suc n) slots = free_if (slots n) n (free_below n slots)

free_step : (n : ℕ) (slots : ℕ → Slot) (s : Slot) (free : List ℕ) → slots n ≡ s → AreFreeSlots n slots free → AreFreeSlots (suc n) slots (free_if s n free)
unfolding free_if
free_step n slots Free free is are = free_next n slots free (n ∷ free) are is (IsPermutation-refl (n ∷ free))
free_step n slots (Holds c id object) free is are = not_free_next n slots free are (ap is_free is)
free_step n slots Broken free is are = not_free_next n slots free are (ap is_free is)

free_below_are : (n : ℕ) (slots : ℕ → Slot) → AreFreeSlots n slots (free_below n slots)
unfolding free_below
free_below_are zero slots = no_free_slots slots
free_below_are (suc n) slots = free_step n slots (slots n) (free_below n slots) refl (free_below_are n slots)

count_step : (n : ℕ) (slots : ℕ → Slot) (s : Slot) (free : List ℕ) → slots n ≡ s → (s ≡ Broken → ⊥) → length (placed_in n slots) + length free ≡ n
    → length (placed_in (suc n) slots) + length (free_if s n free) ≡ suc n
unfolding free_if
count_step n slots Free free is sound so_far =
    let same : length (placed_in (suc n) slots) ≡ length (placed_in n slots) = ap length (placed_past n slots (ap (placed_of n) is)) in omega (arith, same, so_far)
count_step n slots (Holds c id object) free is sound so_far =
    let more : length (placed_here n c id object ∷ placed_in n slots) ≡ length (placed_in (suc n) slots) =
    length_permutation (placed_in (suc n) slots) (placed_here n c id object ∷ placed_in n slots) (placed_with n c id object slots is) in
    omega (arith, more, so_far)
count_step n slots Broken free is sound so_far = absurd (sound refl)

counted : (n : ℕ) (slots : ℕ → Slot) → ((m : ℕ) → m < n → slots m ≡ Broken → ⊥) → length (placed_in n slots) + length (free_below n slots) ≡ n
unfolding free_below
counted zero slots sound = let none : length (placed_in 0 slots) ≡ 0 = ap length (placed_none slots) in omega (arith, none)
counted (suc n) slots sound = count_step n slots (slots n) (free_below n slots) refl (sound n (omega arith))
    (counted n slots (λ m less. sound m (omega (arith, less))))

-- each slot is filled or free
pub placed_are_counted : (cap : ℕ) (slots : ℕ → Slot) (free : List ℕ) → ((n : ℕ) → n < cap → slots n ≡ Broken → ⊥) → AreFreeSlots cap slots free
    → length (placed_in cap slots) + length free ≡ cap
placed_are_counted cap slots free sound are =
    let all = counted cap slots sound in
    let same = free_slots_as_many cap slots free (free_below cap slots) are (free_below_are cap slots) in omega (arith, all, same)

readable_is_sound : (space : Space) (s : Slot) → IsReadable space s → s ≡ Broken → ⊥
readable_is_sound space Free is e = cc
readable_is_sound space (Holds c id object) is e = cc
readable_is_sound space Broken is e = is

pub slots_are_counted : (space : Space) (cap : ℕ) (home : ℕ → List ℕ) (members : Members) (free : List ℕ) → HoldsMembers space cap home members
    → AreFreeSlots cap (slot_at home) free → length members + length free ≡ cap
slots_are_counted space cap home members free holds are =
    let many : length members ≡ length (placed_members cap home) = ap length holds.members_are ∙ sorted_by-length key_before (placed_members cap home) in
    let all : length (placed_members cap home) ≡ length (placed cap home) = length-map (placed cap home) member_of in
    let each = placed_are_counted cap (slot_at home) free (λ n less. readable_is_sound space (slot_at home n) (holds.readable n less)) are in
    omega (arith, many, all, each)
