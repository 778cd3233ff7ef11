-- Rows: objects with their ids and their cells.
use Rattle.std.specs.Prelude.{◌≡◌, ◌≢◌, ℕ, ◌^◌, ◌≤◌, List, length, map, All, AllPairs}
use Rattle.metric_laws.specs.Objects.{Object, Distance}
use Rattle.spb_defs.specs.Pivots.{cells_of}
use Rattle.pivot_map.specs.declared.row.Row.{Row}

-- the row's id and object
abbrev pub entry_of : Row → ℕ × List ℕ
entry_of row = (row.id, row.object)

abbrev pub entries_of : List Row → List (ℕ × List ℕ)
entries_of rows = map entry_of rows

-- at most 8 objects that are measured
pub record ArePivots (admitted : Object → Type 0) (pivots : List Object) : Type 0 where
  pub few : length pivots ≤ 8
  pub objects : All admitted pivots

-- rows of objects that are measured, each with its cells, and no two with the same id
pub record AreRows (admitted : Object → Type 0) (dist : Distance) (pivots : List Object) (rows : List Row) : Type 0 where
  pub few : length rows ≤ 2 ^ 31
  pub objects : All (λ (row : Row). admitted row.object) rows
  pub vects : All (λ (row : Row). row.vect ≡ cells_of dist pivots row.object) rows
  pub ids : AllPairs (λ (a b : Row). a.id ≢ b.id) rows
