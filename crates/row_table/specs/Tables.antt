-- Rows by their ids.
use Rattle.std.specs.Prelude.{ℕ, ◌≢◌, ◌==◌, Bool, not, List, map, filter, AllPairs, Option}
use Rattle.std.specs.List.{find}
use Rattle.pivot_map.specs.declared.row.Row.{Row}

-- the row is that of the id
abbrev pub has_id : ℕ → Row → Bool
has_id id row = row.id == id

-- the first row with the id
abbrev pub row_with : ℕ → List Row → Option Row
row_with id rows = find (has_id id) rows

-- the rows with other ids, in their order
abbrev pub rows_without : ℕ → List Row → List Row
rows_without id rows = filter (λ row. not (has_id id row)) rows

-- the ids of the rows, in their order
abbrev pub ids_of : List Row → List ℕ
ids_of rows = map (λ (row : Row). row.id) rows

-- no two rows have the same id
abbrev pub HasDistinctIds : List Row → Type 0
HasDistinctIds rows = AllPairs (λ (a b : Row). a.id ≢ b.id) rows
