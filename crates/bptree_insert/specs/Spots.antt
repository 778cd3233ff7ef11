-- The place of an entry in a leaf.
use Rattle.std.specs.Prelude.{◌≡◌, ℕ, ◌<◌, ◌≤◌, true, false, List, length, slice_index_or}
use Rattle.bptree_node.specs.declared.layout.TheConstants.{MOST_ENTRIES}
use Rattle.bptree_node.specs.declared.rows.Entry.{Entry}
use Rattle.node_edit.specs.Rows.{entries_on, IsLeaf}
use Rattle.bptree_insert.specs.declared.leaf.Spot.{Spot}
use Rattle.bptree_insert.specs.Rows.{entry_before}

-- the page is a leaf, the entry goes before none that is before the place, and before the one at the place
pub record IsSpot (page : List ℕ) (e : Entry) (spot : Spot) : Type 0 where
  pub leaf : IsLeaf page
  pub place : spot.at ≤ length (entries_on page)
  pub late : (k : ℕ) (d : Entry) → k < spot.at → entry_before e (slice_index_or (entries_on page) k d) ≡ false
  pub early : (d : Entry) → spot.at < length (entries_on page) → entry_before e (slice_index_or (entries_on page) spot.at d) ≡ true
  pub room : spot.is_full ≡ false → length (entries_on page) < MOST_ENTRIES
