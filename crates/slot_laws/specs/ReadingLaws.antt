-- Laws of slots that are read one after another.
use Rattle.std.proofs.Common.{◌≡◌, inl, inr, ℕ, suc, ◌+◌, ◌<◌, List, [], ◌∷◌, length, refl, sym, ap, subst, ◌∙◌, arith}
use Rattle.std.specs.Prelude.{◌^◌, map}
use Rattle.std.specs.List.Sorted.{IsPermutation}
use Rattle.std.proofs.lemmas.Bool.{cases_eq}
use Rattle.std.proofs.lemmas.List.Sorted.{IsPermutation-refl, IsPermutation-sym, IsPermutation-trans}
use Rattle.metrics_builtin.specs.declared.Space.{Space}
use Rattle.metrics_builtin.specs.Space.{IsValid}
use Rattle.spb_defs.specs.State.{Members}
use Rattle.scan_laws.specs.Tables.{members_of}
use Rattle.object_file.specs.Slots.{Slot, Free, Holds}
use Rattle.object_file.specs.ObjectFile.{slot_at}
use Rattle.store_check.specs.Stands.{placed_of, placed_in, IsReadable, HoldsMembers}
use Rattle.slot_laws.specs.FreeSlots.{is_free}
use Rattle.slot_laws.specs.SlotTables.{SlotRow, entries_of, slot_rows, IsTableIn, slot_table, GainsRow, HaveDistinctIds, AreRead}
use Rattle.slot_laws.specs.PlacedLaws.{placed_here, placed_past, placed_with, placed_none}
use Rattle.slot_laws.specs.FreeSlotLaws.{free_next, not_free_next, no_free_slots}
use Rattle.slot_laws.specs.SlotTableLaws.{rows_none, table_more, table_same, read_slots_are_members, table_ids_differ}

-- before the first slot
pub nothing_is_read : (space : Space) (slots : ℕ → Slot) (tables : List (List SlotRow)) → ((c : ℕ) → c < 4 → slot_table tables c ≡ [])
    → AreRead space 0 slots tables []
nothing_is_read space slots tables empty = record {
  readable = λ slot below. absurd (omega (arith, below));
  rows = λ c inside. subst (λ ps. IsPermutation (slot_table tables c) (slot_rows c ps)) (sym (placed_none slots))
      (subst (IsPermutation (slot_table tables c)) (empty c inside ∙ sym (rows_none c)) (IsPermutation-refl (slot_table tables c)));
  unused = no_free_slots slots;
}

readable_next : (space : Space) (n : ℕ) (slots : ℕ → Slot) → ((slot : ℕ) → slot < n → IsReadable space (slots slot)) → IsReadable space (slots n)
    → (slot : ℕ) → slot < suc n → IsReadable space (slots slot)
readable_next space n slots readable last slot below = elim (cases_eq slot n) [
  | inl here ↦ subst (λ k. IsReadable space (slots k)) (sym here) last
  | inr other ↦ readable slot (omega (arith, below, other))
]

free_at : (space : Space) (n : ℕ) (slots : ℕ → Slot) (tables : List (List SlotRow)) (free more : List ℕ) → AreRead space n slots tables free
    → slots n ≡ Free → IsPermutation more (n ∷ free) → AreRead space (suc n) slots tables more
free_at space n slots tables free more are is joins = record {
  readable = readable_next space n slots are.readable (subst (IsReadable space) (sym is) tt);
  rows = λ c inside. subst (λ ps. IsPermutation (slot_table tables c) (slot_rows c ps)) (sym (placed_past n slots (ap (placed_of n) is))) (are.rows c inside);
  unused = free_next n slots free more are.unused is joins;
}

filled_at : (space : Space) (n c id : ℕ) (object : List ℕ) (slots : ℕ → Slot) (tables more : List (List SlotRow)) (free : List ℕ)
    → AreRead space n slots tables free → slots n ≡ Holds c id object → id < 2 ^ 32 → IsValid space object → GainsRow c (n, (id, object)) tables more
    → AreRead space (suc n) slots more free
filled_at space n c id object slots tables more free are is few valid gains = record {
  readable = readable_next space n slots are.readable (subst (IsReadable space) (sym is) (few, valid));
  rows = λ d inside. elim (cases_eq d c) [
    | inl here ↦ subst (λ k. IsTableIn (suc n) slots k (slot_table more k)) (sym here)
        (table_more c (placed_here n c id object) (placed_in n slots) (placed_in (suc n) slots) (slot_table tables c) (slot_table more c) refl
        (placed_with n c id object slots is) (are.rows c (subst (λ k. k < 4) here inside)) gains.here)
    | inr other ↦ subst (λ table. IsTableIn (suc n) slots d table) (sym (gains.others d other))
        (IsPermutation-trans _ _ _ (are.rows d inside) (IsPermutation-sym _ _
        (table_same d (placed_here n c id object) (placed_in n slots) (placed_in (suc n) slots) other (placed_with n c id object slots is))))
  ];
  unused = not_free_next n slots free are.unused (ap is_free is);
}

next_is : (n : ℕ) → suc n ≡ n + 1
next_is n = omega arith

-- a free slot joins the free ones
pub a_free_slot_is_read : (space : Space) (n : ℕ) (slots : ℕ → Slot) (tables : List (List SlotRow)) (free more : List ℕ) → AreRead space n slots tables free
    → slots n ≡ Free → IsPermutation more (n ∷ free) → AreRead space (n + 1) slots tables more
a_free_slot_is_read space n slots tables free more are is joins =
    subst (λ k. AreRead space k slots tables more) (next_is n) (free_at space n slots tables free more are is joins)

-- a filled slot is one row more
pub a_filled_slot_is_read : (space : Space) (n c id : ℕ) (object : List ℕ) (slots : ℕ → Slot) (tables more : List (List SlotRow)) (free : List ℕ)
    → AreRead space n slots tables free → slots n ≡ Holds c id object → id < 2 ^ 32 → IsValid space object → GainsRow c (n, (id, object)) tables more
    → AreRead space (n + 1) slots more free
a_filled_slot_is_read space n c id object slots tables more free are is few valid gains =
    subst (λ k. AreRead space k slots more free) (next_is n) (filled_at space n c id object slots tables more free are is few valid gains)

-- all slots are read
pub slots_are_read : (space : Space) (cap : ℕ) (home : ℕ → List ℕ) (tables : List (List SlotRow)) (free : List ℕ) → AreRead space cap (slot_at home) tables free
    → length tables ≡ 4 → HaveDistinctIds tables → HoldsMembers space cap home (members_of (map entries_of tables))
slots_are_read space cap home tables free are long each = read_slots_are_members space cap home tables are.readable long are.rows each

-- and if the slots hold members, no two rows have the same id
pub read_ids_differ : (space : Space) (cap : ℕ) (home : ℕ → List ℕ) (members : Members) (tables : List (List SlotRow)) (free : List ℕ)
    → HoldsMembers space cap home members → AreRead space cap (slot_at home) tables free → HaveDistinctIds tables
read_ids_differ space cap home members tables free holds are = λ c inside.
    table_ids_differ space cap c home members (slot_table tables c) holds (are.rows c inside)
