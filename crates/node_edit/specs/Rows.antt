-- The rows of a page that is a node of one kind.
use Rattle.std.specs.Prelude.{◌≡◌, ℕ, List, Some}
use Rattle.bptree_node.specs.declared.rows.Entry.{Entry}
use Rattle.bptree_node.specs.declared.rows.Branch.{Branch}
use Rattle.bptree_node.specs.Nodes.{Leaf, Inner, node_in}
use Rattle.bptree_node.specs.Trees.{node_entries, node_branches}

-- the entries of a page that is a leaf
abbrev pub entries_on : List ℕ → List Entry
entries_on page = node_entries (node_in page)

-- the branches of a page that is an inner node
abbrev pub branches_on : List ℕ → List Branch
branches_on page = node_branches (node_in page)

-- the page is a leaf
abbrev pub IsLeaf : List ℕ → Type 0
IsLeaf page = node_in page ≡ Some (Leaf (entries_on page))

-- the page is an inner node
abbrev pub IsInner : List ℕ → Type 0
IsInner page = node_in page ≡ Some (Inner (branches_on page))
