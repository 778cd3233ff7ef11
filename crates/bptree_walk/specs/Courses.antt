-- What is left of a course through a tree.
use Rattle.std.specs.Prelude.{◌≡◌, ℕ, zero, suc, ◌+◌, ◌*◌, ◌^◌, ◌≤◌, ◌<◌, Bool, IsTrue, List, [], ◌∷◌, ◌++◌, length, sum_by, Option, Some, None, option_to_list, Result, Ok, Err, Contains, ◌⊎◌, filter}
use Rattle.std.specs.List.{flat_map, AllByRecursion}
use Rattle.page_laws.specs.declared.errors.TreeError.{TreeError}
use Rattle.page_laws.specs.declared.root.Root.{Root}
use Rattle.bptree_node.specs.declared.layout.TheConstants.{MOST_ENTRIES, MOST_BRANCHES}
use Rattle.bptree_node.specs.declared.rows.Entry.{Entry}
use Rattle.bptree_node.specs.declared.rows.Branch.{Branch}
use Rattle.bptree_node.specs.Nodes.{node_in}
use Rattle.bptree_node.specs.Trees.{tree_at, visited, list_of, pages_of, places_at, node_branches, AreNodes}
use Rattle.bptree_node.specs.TreeLaws.{walked}
use Rattle.bptree_walk.specs.declared.ahead.Ahead.{Ahead}

-- what is left: the entries of the leaf that it is in, and the nodes ahead, the next one first; and how many were fetched
pub record Course : Type 0 where
  pub entries : List Entry
  pub ahead : List Ahead
  pub fetched : ℕ

abbrev pub no_course : Course
no_course = record { entries = []; ahead = []; fetched = 0 }

-- the root's node, which page 1 names, if the tree isn't empty
abbrev pub first_ahead : ℕ → ℕ → Option Ahead
first_ahead zero page = None
first_ahead (suc l) page = Some (record { page = page; level = l; parent = 1 })

-- at the root
abbrev pub begun : Root → Course
begun root = record { entries = []; ahead = option_to_list (first_ahead root.height root.page); fetched = 0 }

-- the entries that are left
abbrev pub list_left : (ℕ → List ℕ) → Course → List Entry
list_left pages course = course.entries ++ flat_map (λ (a : Ahead). list_of a.level (tree_at pages a.level a.page)) course.ahead

-- the nodes that are left
abbrev pub nodes_left : (ℕ → List ℕ) → Course → ℕ
nodes_left pages course = sum_by (λ (a : Ahead). length (pages_of a.level (tree_at pages a.level a.page))) course.ahead

-- the nodes of the whole course
abbrev pub nodes_fetched : (ℕ → List ℕ) → Course → ℕ
nodes_fetched pages course = course.fetched + nodes_left pages course

-- the entries of a region that a walk has left, and the nodes
abbrev pub walk_left : (ℕ → ℕ → Bool) → (ℕ → Bool) → (ℕ → List ℕ) → Course → List Entry
walk_left meets has pages course =
    filter (λ (e : Entry). has e.key) course.entries ++ flat_map (λ (a : Ahead). walked meets has a.level (tree_at pages a.level a.page)) course.ahead

abbrev pub visits_left : (ℕ → ℕ → Bool) → (ℕ → List ℕ) → Course → ℕ
visits_left meets pages course = sum_by (λ (a : Ahead). visited meets a.level (tree_at pages a.level a.page)) course.ahead

-- the nodes of the whole walk
abbrev pub visits_fetched : (ℕ → ℕ → Bool) → (ℕ → List ℕ) → Course → ℕ
visits_fetched meets pages course = course.fetched + visits_left meets pages course

-- how many entries may be left, whatever the pages hold
abbrev pub most_left : Course → ℕ
most_left course = length course.entries + sum_by (λ (a : Ahead). MOST_ENTRIES * MOST_BRANCHES ^ a.level) course.ahead

-- how many nodes a tree may have whose root is so many levels above the leaves
abbrev pub most_nodes : ℕ → ℕ
most_nodes zero = 1
most_nodes (suc l) = 1 + MOST_BRANCHES * most_nodes l

-- how many nodes may be left
abbrev pub most_nodes_left : List Ahead → ℕ
most_nodes_left ahead = sum_by (λ (a : Ahead). most_nodes a.level) ahead

-- how many entries a tree of the greatest height may have
abbrev pub MOST_IN_TREE : ℕ
MOST_IN_TREE = 1152480

-- an entry is the first one left, and None says that none is
abbrev pub TakesFirst : Option Entry → List Entry → List Entry → Type 0
TakesFirst (Some e) old new = old ≡ e ∷ new
TakesFirst None old new = (old ≡ []) × (new ≡ [])

abbrev pub GivesNext : Result (Option Entry) TreeError → List Entry → List Entry → Type 0
GivesNext (Ok given) old new = TakesFirst given old new
GivesNext (Err why) old new = Unit {0}

-- with each entry the number falls
abbrev pub Falls : Result (Option Entry) TreeError → ℕ → ℕ → Type 0
Falls (Ok (Some e)) old new = new < old
Falls (Ok None) old new = new ≤ old
Falls (Err why) old new = Unit {0}

-- after None no node is left
abbrev pub EndsAt : Result (Option Entry) TreeError → ℕ → Type 0
EndsAt (Ok (Some e)) left = Unit {0}
EndsAt (Ok None) left = left ≡ 0
EndsAt (Err why) left = Unit {0}

-- the node's page is named by a branch of its parent, an inner node under this root
pub record IsChild (pages : ℕ → List ℕ) (root : Root) (a : Ahead) : Type 0 where
  pub parent : Contains (places_at pages root) (record { level = suc a.level; page = a.parent })
  pub branch : Branch
  pub among : Contains (node_branches (node_in (pages a.parent))) branch
  pub is : branch.child ≡ a.page

-- the node is the root's, which page 1 names
pub record IsFirst (root : Root) (a : Ahead) : Type 0 where
  pub parent : a.parent ≡ 1
  pub is : a.page ≡ root.page

-- the node is under this root, or is its own, and is named by its parent
pub record IsPart (pages : ℕ → List ℕ) (root : Root) (a : Ahead) : Type 0 where
  pub is : Contains (places_at pages root) (record { level = a.level; page = a.page })
  pub named : IsFirst root a ⊎ IsChild pages root a

-- the nodes ahead are nodes under this root
abbrev pub IsPartOf : (ℕ → List ℕ) → Root → Course → Type 0
IsPartOf pages root course = AllByRecursion (IsPart pages root) course.ahead

-- the nodes ahead are on live pages
abbrev pub AreLive : (ℕ → Bool) → List Ahead → Type 0
AreLive live ahead = AllByRecursion (λ (a : Ahead). IsTrue (live a.page)) ahead

-- the page and those under it are nodes of their levels, on live pages
abbrev pub AreSound : (ℕ → List ℕ) → (ℕ → Bool) → ℕ → ℕ → Type 0
AreSound pages live level page = AreNodes pages level (tree_at pages level page) × AllByRecursion (λ n. IsTrue (live n)) (pages_of level (tree_at pages level page))

-- the nodes ahead and those under them are nodes of their levels, on live pages
abbrev pub IsSoundCourse : (ℕ → List ℕ) → (ℕ → Bool) → Course → Type 0
IsSoundCourse pages live course = AllByRecursion (λ (a : Ahead). AreSound pages live a.level a.page) course.ahead
