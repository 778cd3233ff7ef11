-- The way to an entry's place through an inner node.
use Rattle.std.specs.Prelude.{◌≡◌, ℕ, ◌+◌, ◌<◌, true, false, List, Some, length, slice_index_or}
use Rattle.bptree_node.specs.declared.rows.Branch.{Branch}
use Rattle.bptree_node.specs.Nodes.{Inner, node_in}
use Rattle.bptree_node.specs.Trees.{node_branches}
use Rattle.bptree_insert.specs.declared.way.Way.{Way}
use Rattle.bptree_edit.specs.Parts.{before_branch}

-- the branches of a page that is an inner node
abbrev pub branches_on : List ℕ → List Branch
branches_on page = node_branches (node_in page)

-- the page is an inner node that has this branch at its place
pub record IsBranchAt (page : List ℕ) (way : Way) : Type 0 where
  pub node : node_in page ≡ Some (Inner (branches_on page))
  pub below : way.at < length (branches_on page)
  pub is : (d : Branch) → slice_index_or (branches_on page) way.at d ≡ way.branch

-- the place of a key and an id is under the branch: it goes behind them only if it is the first, and the next one does
pub record LeadsUnder (page : List ℕ) (key id : ℕ) (way : Way) : Type 0 where
  pub branch : IsBranchAt page way
  pub late : 0 < way.at → before_branch key id way.branch ≡ false
  pub early : (d : Branch) → way.at + 1 < length (branches_on page) → before_branch key id (slice_index_or (branches_on page) (way.at + 1) d) ≡ true
