-- What is wrong with a tree, and which page and which rule are named for it.
use Rattle.std.specs.Prelude.{◌≡◌, ◌⊎◌, ℕ, suc, ◌≤◌, ◌<◌, Bool, true, false, IsTrue, List, [], ◌∷◌, ◌++◌, Option, None, Contains}
use Rattle.page_laws.specs.declared.errors.TreeError.{TreeError}
use Rattle.page_laws.specs.declared.errors.TreeError.TheVariants as tree
use Rattle.page_laws.specs.declared.rule.Rule.{Rule}
use Rattle.page_laws.specs.declared.rule.Rule.TheVariants as rule
use Rattle.bptree_node.specs.declared.rows.Entry.{Entry}
use Rattle.bptree_node.specs.declared.rows.Branch.{Branch}
use Rattle.bptree_node.specs.Nodes.{node_in}
use Rattle.bptree_node.specs.Trees.{Place, tree_at, places_of, node_entries, node_branches, goes_before, IsRising, HasFirst}
use Rattle.bptree_walk.specs.Damage.{is_node_of}
use Rattle.bptree_edit.specs.Changes.{HaveBoxes}
use Rattle.bptree_edit.specs.NodesAt.{list_under, list_under_all, rows_in, least_rows}

-- ---- where nodes are

-- where the nodes are that a page and those under it are
unfoldable pub places_under : (ℕ → List ℕ) → ℕ → ℕ → List Place
places_under pages l n = places_of l (tree_at pages l n)

-- a node of this level is on a page, under page `n` at level `l`
abbrev pub IsPlaced : (ℕ → List ℕ) → (l n level page : ℕ) → Type 0
IsPlaced pages l n level page = Contains (places_under pages l n) (record { level = level; page = page })

-- ---- order

-- whether the last entry, if there is one, goes before a key and an id
abbrev pub ends_before : ℕ → ℕ → List Entry → Bool
ends_before key id [] = true
ends_before key id (e ∷ []) = goes_before e.key e.id key id
ends_before key id (e ∷ f ∷ es) = ends_before key id (f ∷ es)

-- ---- what is broken

-- the page isn't live, or is reached more than once
abbrev pub IsLost : (ℕ → Bool) → (ℕ → ℕ) → ℕ → Type 0
IsLost live reached n = (live n ≡ false) ⊎ (2 ≤ reached n)

module _ (pages : ℕ → List ℕ) (l n : ℕ) (page : ℕ) where
  -- a child of the inner node is lost
  pub record HasLostChild (live : ℕ → Bool) (reached : ℕ → ℕ) : Type 0 where
    pub level : ℕ
    pub placed : IsPlaced pages l n (suc level) page
    pub branch : Branch
    pub among : Contains (node_branches (node_in (pages page))) branch
    pub lost : IsLost live reached branch.child

  -- the page is no node of its level
  pub record IsNoNode : Type 0 where
    pub level : ℕ
    pub placed : IsPlaced pages l n level page
    pub none : is_node_of level (node_in (pages page)) ≡ false

  -- the page is the child of an inner node, and has too few rows
  pub record IsUnfilled : Type 0 where
    pub level : ℕ
    pub parent : ℕ
    pub placed : IsPlaced pages l n (suc level) parent
    pub branch : Branch
    pub among : Contains (node_branches (node_in (pages parent))) branch
    pub is : page ≡ branch.child
    pub few : rows_in (node_in (pages page)) < least_rows level

  -- the leaf's entries don't rise
  pub record HasDisorder : Type 0 where
    pub placed : IsPlaced pages l n 0 page
    pub disorder : IsRising (node_entries (node_in (pages page))) → ⊥

  -- the key and the id of a branch of the inner node aren't those of the first entry under its child, or the last entry
  -- under the branches before it doesn't go before them
  pub record HasMisplaced : Type 0 where
    pub level : ℕ
    pub placed : IsPlaced pages l n (suc level) page
    pub front : List Branch
    pub branch : Branch
    pub back : List Branch
    pub are : node_branches (node_in (pages page)) ≡ front ++ branch ∷ back
    pub misplaced : (HasFirst branch.key branch.id (list_under pages level branch.child) → ⊥) ⊎ (ends_before branch.key branch.id (list_under_all pages level front) ≡ false)

  -- the leaf is live, and an entry of it has a key that is none of the tree
  pub record HasForeignKey {S : Type 0} (live : ℕ → Bool) (entry_box : Entry → Option S) : Type 0 where
    pub placed : IsPlaced pages l n 0 page
    pub alive : IsTrue (live page)
    pub entry : Entry
    pub among : Contains (node_entries (node_in (pages page))) entry
    pub none : entry_box entry ≡ None

  -- all entries under a branch of the inner node have keys of the tree, and its corners aren't those of the box around them
  pub record HasOtherBox {S : Type 0} (entry_box : Entry → Option S) (are_corners : List Entry → ℕ → ℕ → Type 0) : Type 0 where
    pub level : ℕ
    pub placed : IsPlaced pages l n (suc level) page
    pub branch : Branch
    pub among : Contains (node_branches (node_in (pages page))) branch
    pub boxed : HaveBoxes entry_box (list_under pages level branch.child)
    pub other : are_corners (list_under pages level branch.child) branch.low branch.high → ⊥

-- The page breaks the rule, in the tree that page `n` at level `l` and those under it are, which `parent` names, where
-- pages are reached so often.
abbrev pub Breaks : {S : Type 0} → (Entry → Option S) → (List Entry → ℕ → ℕ → Type 0) → (ℕ → List ℕ) → (ℕ → Bool) → (ℕ → ℕ) → (parent l n page : ℕ) → Rule → Type 0
Breaks entry_box are_corners pages live reached parent l n page rule.Size = ⊥
Breaks entry_box are_corners pages live reached parent l n page rule.Journal = ⊥
Breaks entry_box are_corners pages live reached parent l n page rule.Profile = ⊥
Breaks entry_box are_corners pages live reached parent l n page rule.Pivot = ⊥
Breaks entry_box are_corners pages live reached parent l n page rule.Page = ((page ≡ parent) × IsLost live reached n) ⊎ HasLostChild pages l n page live reached
Breaks entry_box are_corners pages live reached parent l n page rule.Node = IsNoNode pages l n page
Breaks entry_box are_corners pages live reached parent l n page rule.Fill = IsUnfilled pages l n page
Breaks entry_box are_corners pages live reached parent l n page rule.Order = HasDisorder pages l n page ⊎ HasMisplaced pages l n page
Breaks entry_box are_corners pages live reached parent l n page rule.Key = HasForeignKey pages l n page live entry_box
Breaks entry_box are_corners pages live reached parent l n page rule.Box = HasOtherBox pages l n page entry_box are_corners
Breaks entry_box are_corners pages live reached parent l n page rule.Slot = ⊥
Breaks entry_box are_corners pages live reached parent l n page rule.Match = ⊥

-- what an error says to be damaged breaks the rule named
abbrev pub TellsBreak : {S : Type 0} → (Entry → Option S) → (List Entry → ℕ → ℕ → Type 0) → (ℕ → List ℕ) → (ℕ → Bool) → (ℕ → ℕ) → (parent l n : ℕ) → TreeError → Type 0
TellsBreak entry_box are_corners pages live reached parent l n (tree.Damaged page rule) = Breaks entry_box are_corners pages live reached parent l n page rule
TellsBreak entry_box are_corners pages live reached parent l n tree.Fault = Unit {0}
TellsBreak entry_box are_corners pages live reached parent l n tree.Memory = Unit {0}
