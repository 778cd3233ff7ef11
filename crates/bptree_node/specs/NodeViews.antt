-- What a view of a page shows.
use Rattle.std.specs.Prelude.{◌≡◌, true, slice_index, if◌then◌else◌}
use Rattle.bptree_node.specs.declared.node.NodeView.TheInside.{Inside}
use Rattle.bptree_node.specs.Nodes.{Node, Leaf, Inner, entries_in, branches_in, is_leaf_page, is_inner_page}

-- the node
abbrev pub node_of : Inside → Node
node_of v = if v.is_leaf then Leaf (entries_in v.count v.page.now) else Inner (branches_in v.count v.page.now)

-- the page is a node of this kind, with so many rows
pub record IsView (v : Inside) : Type 0 where
  pub count : v.count ≡ slice_index v.page.now 1
  pub kind : (if v.is_leaf then is_leaf_page v.page.now else is_inner_page v.page.now) ≡ true
