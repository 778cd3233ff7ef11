-- What it is to visit one node.
use Rattle.std.specs.Prelude.{◌≡◌, ℕ, ◌+◌, ◌-◌, ◌≤◌, ◌<◌, Bool, true, false, IsTrue, List, ◌++◌, length, map, filter, reverse, Result, Ok, Err, Contains, ◌⊎◌}
use Rattle.std.specs.List.{AllByRecursion}
use Rattle.page_laws.specs.declared.errors.TreeError.{TreeError}
use Rattle.page_laws.specs.declared.errors.TreeError.TheVariants as tree
use Rattle.page_laws.specs.declared.rule.Rule.TheVariants as rule
use Rattle.bptree_node.specs.declared.layout.TheConstants.{MOST_ENTRIES, MOST_BRANCHES}
use Rattle.bptree_node.specs.declared.rows.Entry.{Entry}
use Rattle.bptree_node.specs.declared.rows.Branch.{Branch}
use Rattle.bptree_node.specs.Nodes.{node_in}
use Rattle.bptree_node.specs.Trees.{node_entries, node_branches}
use Rattle.bptree_walk.specs.declared.ahead.Ahead.{Ahead}
use Rattle.bptree_walk.specs.Courses.{AreLive}
use Rattle.bptree_walk.specs.Damage.{is_node_of}

-- the node's page isn't live, which its parent names
pub record IsLost (live : ℕ → Bool) (a : Ahead) (why : TreeError) : Type 0 where
  pub is : why ≡ tree.Damaged a.parent rule.Page
  pub lost : live a.page ≡ false

-- what the page holds is no node of this level
pub record IsMistaken (a : Ahead) (page : List ℕ) (why : TreeError) : Type 0 where
  pub is : why ≡ tree.Damaged a.page rule.Node
  pub none : is_node_of a.level (node_in page) ≡ false

-- what is said to be damaged is the parent of a node that isn't live
abbrev pub NamesLost : {A : Type 0} → (ℕ → Bool) → Ahead → Result A TreeError → Type 0
NamesLost live a (Ok _) = Unit {0}
NamesLost live a (Err (tree.Damaged page rule)) = IsLost live a (tree.Damaged page rule)
NamesLost live a (Err tree.Fault) = Unit {0}
NamesLost live a (Err tree.Memory) = Unit {0}

-- what is said to be damaged is the parent of a node that isn't live, or a page that is no node of its level
abbrev pub IsCause : (ℕ → Bool) → Ahead → List ℕ → TreeError → Type 0
IsCause live a page (tree.Damaged n rule) = IsLost live a (tree.Damaged n rule) ⊎ IsMistaken a page (tree.Damaged n rule)
IsCause live a page tree.Fault = Unit {0}
IsCause live a page tree.Memory = Unit {0}

-- the child of a branch, as a node ahead
abbrev pub child_ahead : ℕ → ℕ → Branch → Ahead
child_ahead level parent b = record { page = b.child; level = level; parent = parent }

-- the children that a walk follows, the first one first
abbrev pub followed : (ℕ → ℕ → Bool) → ℕ → ℕ → List Branch → List Ahead
followed meets level parent branches = map (child_ahead level parent) (filter (λ (b : Branch). meets b.low b.high) branches)

-- these nodes, on live pages, are ahead now, before those that were
pub record ArePut (live : ℕ → Bool) (children old new : List Ahead) : Type 0 where
  pub items : new ≡ old ++ reverse children
  pub alive : AreLive live children

-- one of an inner node's branches leads to a page that isn't live, which the node names
pub record HasLost (live : ℕ → Bool) (a : Ahead) (branches : List Branch) (why : TreeError) : Type 0 where
  pub is : why ≡ tree.Damaged a.page rule.Page
  pub inner : 0 < a.level
  pub branch : Branch
  pub among : Contains branches branch
  pub lost : live branch.child ≡ false

-- at most as many nodes as an inner node has branches are ahead now, one level below this one, before those that were
pub record GoesDeeper (level : ℕ) (old new : List Ahead) : Type 0 where
  pub children : List Ahead
  pub items : new ≡ old ++ reverse children
  pub few : length children ≤ MOST_BRANCHES
  pub levels : AllByRecursion (λ (a : Ahead). a.level + 1 ≡ level) children

-- The page is a node of this level, with these entries; if it is an inner one, the children that a walk follows are put
-- ahead.
pub record IsOpened (live : ℕ → Bool) (meets : ℕ → ℕ → Bool) (a : Ahead) (page : List ℕ) (entries : List Entry) (old new : List Ahead) : Type 0 where
  pub node : is_node_of a.level (node_in page) ≡ true
  pub are : entries ≡ node_entries (node_in page)
  pub few : length entries ≤ MOST_ENTRIES
  pub put : ArePut live (followed meets (a.level - 1) a.page (node_branches (node_in page))) old new

-- the page is no node of its level, or names a child that isn't live
abbrev pub IsRefused : (ℕ → Bool) → Ahead → List ℕ → TreeError → Type 0
IsRefused live a page why = IsMistaken a page why ⊎ HasLost live a (node_branches (node_in page)) why

-- the node was opened, and what was read is what the pages hold, if this is known
pub record IsVisited (is_known : Bool) (held : List ℕ) (live : ℕ → Bool) (meets : ℕ → ℕ → Bool) (a : Ahead) (entries : List Entry) (old new : List Ahead) : Type 0 where
  pub page : List ℕ
  pub is : IsTrue is_known → page ≡ held
  pub opened : IsOpened live meets a page entries old new

-- what is said to be damaged is a page that is no node of its level, or names a child that isn't live
abbrev pub IsVisitCause : (ℕ → Bool) → Ahead → List ℕ → TreeError → Type 0
IsVisitCause live a page (tree.Damaged n rule) = IsRefused live a page (tree.Damaged n rule)
IsVisitCause live a page tree.Fault = Unit {0}
IsVisitCause live a page tree.Memory = Unit {0}
