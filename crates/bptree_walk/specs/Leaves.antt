-- A leaf's entries from a place on, by the fields.
use Rattle.std.specs.Prelude.{◌≤◌, List, length, take, drop}
use Rattle.bptree_node.specs.declared.rows.Entry.{Entry}
use Rattle.bptree_node.specs.Nodes.{node_in}
use Rattle.bptree_node.specs.Trees.{node_entries}
use Rattle.bptree_walk.specs.declared.leaf.LeafReader.TheInside.{Inside}

-- those from the place on and below the count
abbrev pub entries_left : Inside → List Entry
entries_left r = drop r.at (take r.count (node_entries (node_in r.page)))

-- the page has so many entries
pub record IsLeafReader (r : Inside) : Type 0 where
  pub place : r.at ≤ r.count
  pub there : r.count ≤ length (node_entries (node_in r.page))
