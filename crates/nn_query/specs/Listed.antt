-- Rows as candidates.
use Rattle.std.specs.Prelude.{ℕ, ◌+◌, List, [], ◌∷◌}
use Rattle.std.specs.List.{slice_index_or}
use Rattle.pivot_map.specs.declared.row.Row as vector_row
use Rattle.spb_defs.specs.Pivots.{lower_bound}
use Rattle.near_search.specs.Queue.{Candidate, Nodes}

-- the candidate for the row at a place
abbrev pub candidate_for : List ℕ → ℕ → vector_row.Row → Candidate
candidate_for asked place row = record { bound = lower_bound asked row.vect; id = row.id; place = place }

-- a candidate for each row, the first with this place
unfoldable pub candidates_for : List ℕ → ℕ → List vector_row.Row → List Candidate
candidates_for asked place [] = []
candidates_for asked place (row ∷ rows) = candidate_for asked place row ∷ candidates_for asked (place + 1) rows

-- the object of the row at a place
abbrev pub object_at_place : List vector_row.Row → ℕ → List ℕ
object_at_place rows place = (slice_index_or rows place (record { id = 0; object = []; vect = [] })).object

-- the nodes over rows are empty
abbrev pub empty_nodes : Nodes
empty_nodes = record { objects = λ level place. []; bounds = λ level place. []; weight = λ level. 1; most = λ level. 0 }
