-- The members in the slots as a table for each collection, with the slot of each row.
use Rattle.std.specs.Prelude.{◌≡◌, ℕ, ◌<◌, ◌==◌, List, [], ◌∷◌, map, All, Option, Some, None, if◌then◌else◌}
use Rattle.std.specs.List.{filter_map, slice_index_or}
use Rattle.std.specs.List.Sorted.{IsPermutation}
use Rattle.metrics_builtin.specs.declared.Space.{Space}
use Rattle.spb_defs.specs.Scans.{Entry}
use Rattle.scan_laws.specs.Tables.{HasDistinctEntryIds}
use Rattle.object_file.specs.Slots.{Slot, Holds}
use Rattle.object_file.specs.ObjectFile.{slot_at}
use Rattle.store_check.specs.Stands.{Placed, placed_in, IsReadable}
use Rattle.slot_laws.specs.FreeSlots.{AreFreeSlots}

-- a slot, and the id and the object that it holds
abbrev pub SlotRow : Type 0
SlotRow = ℕ × Entry

-- the rows of a table without their slots
abbrev pub entries_of : List SlotRow → List Entry
entries_of table = map (λ row. row.1) table

-- the row of what a slot holds, if it is of this collection
abbrev pub row_in : ℕ → Placed → Option SlotRow
row_in c p = if p.collection == c then Some (p.slot, (p.id, p.object)) else None

-- the rows of a collection, in the order of the slots
unfoldable pub slot_rows : ℕ → List Placed → List SlotRow
slot_rows c ps = filter_map (row_in c) ps

-- the table has the rows of the collection, in any order
abbrev pub IsTableIn : ℕ → (ℕ → Slot) → ℕ → List SlotRow → Type 0
IsTableIn cap slots c table = IsPermutation table (slot_rows c (placed_in cap slots))

-- the same of the slots in these pages
abbrev pub IsTableOf : ℕ → (ℕ → List ℕ) → ℕ → List SlotRow → Type 0
IsTableOf cap home c table = IsTableIn cap (slot_at home) c table

-- the table of a collection
abbrev pub slot_table : List (List SlotRow) → ℕ → List SlotRow
slot_table tables c = slice_index_or tables c []

-- the four tables are those of the collections
abbrev pub AreTablesIn : ℕ → (ℕ → Slot) → List (List SlotRow) → Type 0
AreTablesIn cap slots tables = (c : ℕ) → c < 4 → IsTableIn cap slots c (slot_table tables c)

-- the same of the slots in these pages
abbrev pub AreTablesOf : ℕ → (ℕ → List ℕ) → List (List SlotRow) → Type 0
AreTablesOf cap home tables = AreTablesIn cap (slot_at home) tables

-- a collection's table has this row more, and the other tables are the same
pub record GainsRow (c : ℕ) (row : SlotRow) (old new : List (List SlotRow)) : Type 0 where
  pub here : IsPermutation (slot_table new c) (row ∷ slot_table old c)
  pub others : (d : ℕ) → (d ≡ c → ⊥) → slot_table new d ≡ slot_table old d

-- no two rows of a table have the same id
abbrev pub HaveDistinctIds : List (List SlotRow) → Type 0
HaveDistinctIds tables = (c : ℕ) → c < 4 → HasDistinctEntryIds (entries_of (slot_table tables c))

-- the slot of each row holds its object under the collection and the row's id
abbrev pub AreInSlots : ℕ → (ℕ → Slot) → ℕ → List SlotRow → Type 0
AreInSlots cap slots c table = All (λ row. (row.0 < cap) × (slots row.0 ≡ Holds c row.1.0 row.1.1)) table

-- the slots below n are readable, the tables have what they hold, and those of them that are free are these
pub record AreRead (space : Space) (n : ℕ) (slots : ℕ → Slot) (tables : List (List SlotRow)) (free : List ℕ) : Type 0 where
  pub readable : (slot : ℕ) → slot < n → IsReadable space (slots slot)
  pub rows : AreTablesIn n slots tables
  pub unused : AreFreeSlots n slots free
