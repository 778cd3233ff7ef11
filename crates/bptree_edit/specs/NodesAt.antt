-- Nodes by their pages and levels, and the pages that trees have.
use Rattle.std.specs.Prelude.{◌≡◌, ℕ, zero, suc, ◌+◌, ◌≤◌, ◌<◌, ◌==◌, Bool, IsTrue, List, count_by, Option, Some, None}
use Rattle.std.specs.List.{flat_map, AllByRecursion}
use Rattle.bptree_node.specs.declared.layout.TheConstants.{LEAST_ENTRIES, LEAST_BRANCHES}
use Rattle.bptree_node.specs.declared.rows.Entry.{Entry}
use Rattle.bptree_node.specs.declared.rows.Branch.{Branch}
use Rattle.bptree_node.specs.Nodes.{Node, Leaf, Inner, node_in, row_count}
use Rattle.bptree_node.specs.Trees.{tree_at, list_of, pages_of, HasFirst}

-- how often a page is among these
unfoldable pub times : ℕ → List ℕ → ℕ
times n pages = count_by (λ m. m == n) pages

-- the entries and the pages of the tree that a page and those under it are
unfoldable pub list_under : (ℕ → List ℕ) → ℕ → ℕ → List Entry
list_under pages l n = list_of l (tree_at pages l n)

unfoldable pub pages_under : (ℕ → List ℕ) → ℕ → ℕ → List ℕ
pages_under pages l n = pages_of l (tree_at pages l n)

-- those under some branches
unfoldable pub list_under_all : (ℕ → List ℕ) → ℕ → List Branch → List Entry
list_under_all pages l branches = flat_map (λ (b : Branch). list_under pages l b.child) branches

unfoldable pub pages_under_all : (ℕ → List ℕ) → ℕ → List Branch → List ℕ
pages_under_all pages l branches = flat_map (λ (b : Branch). pages_under pages l b.child) branches

-- how many rows a node has, and how many one has at least that isn't the root
abbrev pub rows_in : Option Node → ℕ
rows_in (Some node) = row_count node
rows_in None = 0

abbrev pub least_rows : ℕ → ℕ
least_rows zero = LEAST_ENTRIES
least_rows (suc l) = LEAST_BRANCHES

-- what a branch says of its child: the key and the id of the first entry and the corners; and the child has enough rows
pub record IsBranchOf (are_corners : List Entry → ℕ → ℕ → Type 0) (pages : ℕ → List ℕ) (l : ℕ) (b : Branch) : Type 0 where
  pub filled : least_rows l ≤ rows_in (node_in (pages b.child))
  pub first : HasFirst b.key b.id (list_under pages l b.child)
  pub corners : are_corners (list_under pages l b.child) b.low b.high

-- the page and those under it are nodes whose branches say what is under them
unfoldable pub AreNodesUnder : (List Entry → ℕ → ℕ → Type 0) → (ℕ → List ℕ) → (l : ℕ) → ℕ → Type 0
AreNodesUnder are_corners pages zero n = (entries : List Entry) × (node_in (pages n) ≡ Some (Leaf entries))
AreNodesUnder are_corners pages (suc l) n =
    (branches : List Branch) × ((node_in (pages n) ≡ Some (Inner branches))
    × AllByRecursion (λ (b : Branch). IsBranchOf are_corners pages l b × AreNodesUnder are_corners pages l b.child) branches)

-- the same of the children of some branches
unfoldable pub AreChildren : (List Entry → ℕ → ℕ → Type 0) → (ℕ → List ℕ) → ℕ → List Branch → Type 0
AreChildren are_corners pages l branches = AllByRecursion (λ (b : Branch). IsBranchOf are_corners pages l b × AreNodesUnder are_corners pages l b.child) branches

-- the pages and the free ones are of the pool, and none is there twice
pub record AreOwn (in_pool : ℕ → Bool) (free used : List ℕ) : Type 0 where
  pub once : (n : ℕ) → times n free + times n used ≤ 1
  pub pool : (n : ℕ) → 0 < times n free + times n used → IsTrue (in_pool n)
