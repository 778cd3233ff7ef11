-- Slots that a change leaves as they are, and slots that are all free.
use Rattle.std.proofs.Common.{◌≡◌, inl, inr, ℕ, zero, suc, ◌+◌, ◌≤◌, ◌<◌, true, List, [], map, sym, ap, subst, ◌∙◌, arith}
use Rattle.std.specs.List.{IsDistinct, range_with_len}
use Rattle.std.specs.List.Sorted.{IsPermutation}
use Rattle.std.proofs.lemmas.Bool.{cases_eq}
use Rattle.std.proofs.lemmas.Bool.Decides.{nat_tests}
use Rattle.std.proofs.lemmas.List.Sorted.{IsPermutation-refl}
use Rattle.answer_lists.specs.Order.{sorted_by}
use Rattle.metrics_builtin.specs.declared.Space.{Space}
use Rattle.spb_defs.specs.State.{Members}
use Rattle.scan_laws.specs.Tables.{key_before}
use Rattle.page_laws.specs.Pages.{is_among}
use Rattle.page_laws.specs.FreeLaws.{range_free}
use Rattle.object_file.specs.Slots.{Slot, Free}
use Rattle.object_file.specs.ObjectFile.{is_slot, slot_at}
use Rattle.store_check.specs.Stands.{member_of, placed_of, placed_in, IsReadable, HoldsMembers}
use Rattle.slot_laws.specs.FreeSlots.{is_free, AreFreeSlots}
use Rattle.slot_laws.specs.SlotTables.{SlotRow, slot_rows, slot_table, AreTablesIn}
use Rattle.slot_laws.specs.Ranges.{same_range}
use Rattle.slot_laws.specs.PlacedLaws.{placed_past, placed_none}
use Rattle.slot_laws.specs.ChangeLaws.{HasDistinctMembers}
use Rattle.slot_laws.specs.SlotTableLaws.{rows_none}

-- the slots below cap are the same
abbrev pub HasSameSlots : ℕ → (ℕ → Slot) → (ℕ → Slot) → Type 0
HasSameSlots cap old new = (slot : ℕ) → slot < cap → new slot ≡ old slot

pub same_placed : (cap : ℕ) (old new : ℕ → Slot) → HasSameSlots cap old new → placed_in cap new ≡ placed_in cap old
unfolding placed_in
same_placed cap old new same =
    same_range (λ n. placed_of n (old n)) (λ n. placed_of n (new n)) 0 cap (λ n least below. ap (placed_of n) (same n (omega (arith, below))))

-- they hold the same members
pub same_slots_hold_the_same : (space : Space) (cap : ℕ) (old new : ℕ → List ℕ) (members : Members) → HoldsMembers space cap old members
    → HasSameSlots cap (slot_at old) (slot_at new) → HoldsMembers space cap new members
same_slots_hold_the_same space cap old new members holds same =
    let is = same_placed cap (slot_at old) (slot_at new) same in
    record {
      readable = λ slot below. subst (IsReadable space) (sym (same slot below)) (holds.readable slot below);
      distinct = subst HasDistinctMembers (sym is) holds.distinct;
      members_are = holds.members_are ∙ ap (λ ps. sorted_by key_before (map member_of ps)) (sym is);
    }

-- they have the same tables
pub same_slots_have_the_same_tables : (cap : ℕ) (old new : ℕ → Slot) (tables : List (List SlotRow)) → AreTablesIn cap old tables → HasSameSlots cap old new
    → AreTablesIn cap new tables
same_slots_have_the_same_tables cap old new tables are same = λ c inside.
    subst (λ ps. IsPermutation (slot_table tables c) (slot_rows c ps)) (sym (same_placed cap old new same)) (are c inside)

-- and the same of them are free
pub same_slots_are_free : (cap : ℕ) (old new : ℕ → Slot) (free : List ℕ) → AreFreeSlots cap old free → HasSameSlots cap old new → AreFreeSlots cap new free
same_slots_are_free cap old new free are same = record { are = are.are; each = λ slot below. are.each slot below ∙ ap is_free (sym (same slot below)) }

-- ---- slots that are all free

-- all slots below cap are free
abbrev pub AreAllFree : ℕ → (ℕ → Slot) → Type 0
AreAllFree cap slots = (slot : ℕ) → slot < cap → slots slot ≡ Free

pub nothing_placed : (cap : ℕ) (slots : ℕ → Slot) → AreAllFree cap slots → placed_in cap slots ≡ []
nothing_placed zero slots all = placed_none slots
nothing_placed (suc n) slots all = placed_past n slots (ap (placed_of n) (all n (omega arith)))
    ∙ nothing_placed n slots (λ slot below. all slot (omega (arith, below)))

-- their tables are empty
pub free_slots_have_no_rows : (cap : ℕ) (slots : ℕ → Slot) (tables : List (List SlotRow)) → AreAllFree cap slots
    → ((c : ℕ) → c < 4 → slot_table tables c ≡ []) → AreTablesIn cap slots tables
free_slots_have_no_rows cap slots tables all empty = λ c inside.
    subst (λ ps. IsPermutation (slot_table tables c) (slot_rows c ps)) (sym (nothing_placed cap slots all))
    (subst (IsPermutation (slot_table tables c)) (empty c inside ∙ sym (rows_none c)) (IsPermutation-refl (slot_table tables c)))

is_below : (cap n : ℕ) → n < 0 + cap → is_slot cap n ≡ true
is_below cap n below = grind (arith, nat_tests, below)

range_has : (from count n : ℕ) → from ≤ n → n < from + count → is_among n (range_with_len from count) ≡ true
range_has from zero n least below = absurd (omega (arith, least, below))
range_has from (suc count) n least below = elim (cases_eq from n) [
  | inl same ↦ grind (arith, nat_tests, same)
  | inr other ↦ grind (arith, nat_tests, range_has (from + 1) count n (omega (arith, least, other)) (omega (arith, below)))
]

-- they hold no members
pub free_slots_hold_nothing : (space : Space) (cap : ℕ) (home : ℕ → List ℕ) → AreAllFree cap (slot_at home) → HoldsMembers space cap home []
unfolding sorted_by IsDistinct
free_slots_hold_nothing space cap home all =
    let none = nothing_placed cap (slot_at home) all in
    record {
      readable = λ slot below. subst (IsReadable space) (sym (all slot below)) tt;
      distinct = subst HasDistinctMembers (sym none) tt;
      members_are = ap (λ ps. sorted_by key_before (map member_of ps)) (sym none);
    }

-- and all numbers below cap are those of free ones
pub all_slots_are_free : (cap : ℕ) (slots : ℕ → Slot) → AreAllFree cap slots → AreFreeSlots cap slots (range_with_len 0 cap)
all_slots_are_free cap slots all = record {
  are = range_free (is_slot cap) 0 cap (λ n least below. is_below cap n below);
  each = λ slot below. range_has 0 cap slot (omega arith) (omega (arith, below)) ∙ ap is_free (sym (all slot below));
}
