-- The records of the pivots.
use Rattle.std.specs.Prelude.{◌≡◌, ℕ, ◌+◌, ◌/◌, ◌%◌, ◌<◌, ◌≤◌, ◌==◌, ◌&&◌, if◌then◌else◌, List, [], length, slice_index_or, Option, Some, None}
use Rattle.object_file.specs.Slots.{Slot, Free, Holds, Broken, slot_in}

-- the object of a record, which is a slot filled under collection 0 and id 0
abbrev pub pivot_of : Slot → Option (List ℕ)
pivot_of Free = None
pivot_of Broken = None
pivot_of (Holds collection id object) = if collection == 0 && id == 0 then Some object else None

-- the object of the pivot whose record is at a place of a page
abbrev pub pivot_in : List ℕ → ℕ → Option (List ℕ)
pivot_in page place = pivot_of (slot_in page place)

-- the object of a pivot, by the pages: page 2 has the first four
abbrev pub pivot_at : (ℕ → List ℕ) → ℕ → Option (List ℕ)
pivot_at pages i = pivot_in (pages (2 + i / 4)) (i % 4)

-- the pages hold these pivots, at most eight, each in its record; the records after them read as no bytes
pub record HasPivots (pages : ℕ → List ℕ) (pivots : List (List ℕ)) : Type 0 where
  pub few : length pivots ≤ 8
  pub each : (i : ℕ) → i < 8 → pivot_at pages i ≡ Some (slice_index_or pivots i [])
