-- A cursor by its fields.
use Rattle.std.specs.Prelude.{◌≡◌, ℕ, ◌+◌, ◌*◌, ◌≤◌, ◌<◌, List, [], ◌∷◌, reverse}
use Rattle.bptree_node.specs.declared.layout.TheConstants.{HEIGHT_LIMIT}
use Rattle.bptree_walk.specs.declared.ahead.Ahead.{Ahead}
use Rattle.bptree_walk.specs.declared.cursor.Cursor.TheInside.{Inside}
use Rattle.bptree_walk.specs.declared.visit.TheConstants.{AHEAD_LIMIT}
use Rattle.bptree_walk.specs.Courses.{Course, most_nodes, most_nodes_left}

-- the entries of the leaf that are left, and the nodes ahead, of which the next one is kept last
abbrev pub course_of : Inside → Course
course_of c = record { entries = c.leaf; ahead = reverse c.ahead.items; fetched = c.fetched }

-- what stands at a place leaves room for the children of all below it
abbrev pub IsStacked : ℕ → List Ahead → Type 0
IsStacked at [] = Unit {0}
IsStacked at (a ∷ rest) = (a.level < HEIGHT_LIMIT) × (at + 13 * a.level < AHEAD_LIMIT) × IsStacked (at + 1) rest

-- the nodes ahead are few, and so are those fetched
pub record IsCursor (c : Inside) : Type 0 where
  pub room : c.ahead.capacity ≡ AHEAD_LIMIT
  pub stacked : IsStacked 0 c.ahead.items
  pub few : c.fetched + most_nodes_left (reverse c.ahead.items) ≤ most_nodes 4
