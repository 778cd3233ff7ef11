-- Lists of rows in order of id, each row with its slot.
use Rattle.std.specs.Prelude.{◌≡◌, ℕ, ◌<◌, ◌≤◌, Bool, List, [], ◌∷◌, length, AllPairs, Result, Ok, Err}
use Rattle.std.specs.List.{slice_index_or}
use Rattle.std.specs.List.Sorted.{IsPermutation}
use Rattle.pivot_map.specs.declared.row.Row.{Row}
use Rattle.row_list.specs.declared.list.Place.{Place}
use Rattle.row_list.specs.declared.list.Place.TheVariants.{Found, Absent}
use Rattle.row_list.specs.declared.sorting.ListError.{ListError}
use Rattle.row_list.specs.declared.sorting.ListError.TheVariants.{Repeated, Memory}
use Rattle.row_list.specs.declared.sorting.SlottedRow.{SlottedRow}
use Rattle.row_list.specs.Slotted.{RepeatsId}

-- the rows, the slot of each, and whether one more row fits without memory
pub record ListedRows : Type 0 where
  pub rows : List Row
  pub slots : List ℕ
  pub has_room : Bool

-- each id is below those of the later rows
abbrev pub IsInOrder : List Row → Type 0
IsInOrder rows = AllPairs (λ (a b : Row). a.id < b.id) rows

-- rows in order of id, as many as slots
pub record IsListed (rows : List Row) (slots : List ℕ) : Type 0 where
  pub order : IsInOrder rows
  pub same_length : length slots ≡ length rows

-- each row with the slot at its place
abbrev pub slotted : List Row → List ℕ → List SlottedRow
slotted [] slots = []
slotted (row ∷ rows) [] = []
slotted (row ∷ rows) (slot ∷ slots) = record { slot = slot; row = row } ∷ slotted rows slots

-- the row at this place has the id
pub record IsPlaceOf (rows : List Row) (id place : ℕ) : Type 0 where
  pub within : place < length rows
  pub is : (d : Row) → (slice_index_or rows place d).id ≡ id

-- no row has the id, and those before this place are the rows of lower ids
pub record IsPlaceFor (rows : List Row) (id place : ℕ) : Type 0 where
  pub within : place ≤ length rows
  pub lower : (k : ℕ) (d : Row) → k < place → (slice_index_or rows k d).id < id
  pub greater : (k : ℕ) (d : Row) → place ≤ k → k < length rows → id < (slice_index_or rows k d).id

-- what a search for the id among the rows answers
abbrev pub IsPlaceIn : List Row → ℕ → Place → Type 0
IsPlaceIn rows id (Found place) = IsPlaceOf rows id place
IsPlaceIn rows id (Absent place) = IsPlaceFor rows id place

-- a list of these rows, or why there is none
abbrev pub Lists : Result ListedRows ListError → List SlottedRow → Type 0
Lists (Ok list) given = IsPermutation given (slotted list.rows list.slots)
Lists (Err (Repeated slot)) given = RepeatsId given slot
Lists (Err Memory) given = Unit
