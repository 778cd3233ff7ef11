-- Rows with the slots that hold their objects.
use Rattle.std.specs.Prelude.{◌≡◌, ℕ, ◌+◌, ◌<◌, List, length, map, AllPairs, Contains}
use Rattle.std.specs.List.{slice_index_or}
use Rattle.pivot_map.specs.declared.row.Row.{Row}
use Rattle.row_list.specs.declared.sorting.SlottedRow.{SlottedRow}

abbrev pub id_of : SlottedRow → ℕ
id_of row = row.row.id

-- the rows, without their slots
abbrev pub rows_of : List SlottedRow → List Row
rows_of rows = map (λ (row : SlottedRow). row.row) rows

-- the slots, without their rows
abbrev pub slots_of : List SlottedRow → List ℕ
slots_of rows = map (λ (row : SlottedRow). row.slot) rows

-- each slot is below those of the later rows
abbrev pub HasAscendingSlots : List SlottedRow → Type 0
HasAscendingSlots rows = AllPairs (λ (a b : SlottedRow). a.slot < b.slot) rows

-- each id is below those of the later rows
abbrev pub HasAscendingIds : List SlottedRow → Type 0
HasAscendingIds rows = AllPairs (λ (a b : SlottedRow). id_of a < id_of b) rows

-- the row of this slot has the id of the row just before it
pub record HasRepeatAt (rows : List SlottedRow) (slot : ℕ) : Type 0 where
  pub place : ℕ
  pub within : place + 1 < length rows
  pub same : (d : SlottedRow) → id_of (slice_index_or rows place d) ≡ id_of (slice_index_or rows (place + 1) d)
  pub is : (d : SlottedRow) → (slice_index_or rows (place + 1) d).slot ≡ slot

-- the row of this slot has the id of a row of a lower slot
pub record RepeatsId (rows : List SlottedRow) (slot : ℕ) : Type 0 where
  pub lower : SlottedRow
  pub greater : SlottedRow
  pub has_lower : Contains rows lower
  pub has_greater : Contains rows greater
  pub same : id_of lower ≡ id_of greater
  pub below : lower.slot < greater.slot
  pub is : greater.slot ≡ slot
