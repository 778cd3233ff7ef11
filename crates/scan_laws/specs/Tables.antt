-- Members as a table of rows for each collection.
use Rattle.std.specs.Prelude.{◌≢◌, ℕ, zero, suc, ◌==◌, Bool, not, List, [], ◌∷◌, ◌++◌, map, filter, AllPairs, Option}
use Rattle.std.specs.List.{slice_index_or}
use Rattle.std.specs.Map.{lookup}
use Rattle.std.specs.Ordering.{is_lt}
use Rattle.answer_lists.specs.Order.{sorted_by}
use Rattle.spb_defs.specs.Scans.{Entry}
use Rattle.spb_defs.specs.State.{Key, Members, key_cmp}

-- no two rows have the same id
abbrev pub HasDistinctEntryIds : List Entry → Type 0
HasDistinctEntryIds rows = AllPairs (λ a b. a.0 ≢ b.0) rows

-- a member before another: by its key
abbrev pub key_before : Key × List ℕ → Key × List ℕ → Bool
key_before a b = is_lt (key_cmp a.0 b.0)

-- the rows as members of the collection
abbrev pub keyed_entries : ℕ → List Entry → Members
keyed_entries c rows = map (λ row. ((c, row.0), row.1)) rows

-- the rows of the tables as members, the first table being that of the collection c
abbrev pub keyed_tables : ℕ → List (List Entry) → Members
keyed_tables c [] = []
keyed_tables c (rows ∷ tables) = keyed_entries c rows ++ keyed_tables (suc c) tables

-- the members that the tables hold, the first table being that of collection 0
unfoldable pub members_of : List (List Entry) → Members
members_of tables = sorted_by key_before (keyed_tables 0 tables)

-- the table of a collection, empty if the collection has none
abbrev pub table_at : List (List Entry) → ℕ → List Entry
table_at tables c = slice_index_or tables c []

-- the tables with another one for a collection; if the collection has none, the tables as they are
abbrev pub with_table : List (List Entry) → ℕ → List Entry → List (List Entry)
with_table [] c rows = []
with_table (first ∷ rest) zero rows = rows ∷ rest
with_table (first ∷ rest) (suc c) rows = first ∷ with_table rest c rows

-- the object of the first row with the id
abbrev pub object_with_id : List Entry → ℕ → Option (List ℕ)
object_with_id rows id = lookup (λ other. other == id) rows

-- the rows without those with the id
abbrev pub entries_without : List Entry → ℕ → List Entry
entries_without rows id = filter (λ row. not (row.0 == id)) rows
