-- What is under a node that is given by its rows: no page need have them yet.
use Rattle.std.specs.Prelude.{ℕ, zero, suc, List, []}
use Rattle.bptree_node.specs.declared.rows.Entry.{Entry}
use Rattle.bptree_node.specs.Nodes.{Node, Leaf, Inner, entries_of, branches_of}
use Rattle.bptree_edit.specs.NodesAt.{list_under_all, pages_under_all, AreChildren}

-- the entries of a leaf, and those under an inner node
unfoldable pub list_in : (ℕ → List ℕ) → ℕ → Node → List Entry
list_in pages zero node = entries_of node
list_in pages (suc l) node = list_under_all pages l (branches_of node)

-- the pages under it, without its own one
unfoldable pub pages_in : (ℕ → List ℕ) → ℕ → Node → List ℕ
pages_in pages zero node = []
pages_in pages (suc l) node = pages_under_all pages l (branches_of node)

-- it is a node of this level, and its branches say what is under them
unfoldable pub IsNodeIn : (List Entry → ℕ → ℕ → Type 0) → (ℕ → List ℕ) → ℕ → Node → Type 0
IsNodeIn are_corners pages zero (Leaf entries) = Unit {0}
IsNodeIn are_corners pages zero (Inner branches) = ⊥
IsNodeIn are_corners pages (suc l) (Leaf entries) = ⊥
IsNodeIn are_corners pages (suc l) (Inner branches) = AreChildren are_corners pages l branches
