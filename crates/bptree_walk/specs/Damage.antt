-- Why a walk says that pages are damaged.
use Rattle.std.specs.Prelude.{◌≡◌, ℕ, zero, suc, ◌<◌, Bool, true, false, List, Option, Some, None, Result, Ok, Err, Contains, ◌⊎◌}
use Rattle.page_laws.specs.declared.errors.TreeError.{TreeError}
use Rattle.page_laws.specs.declared.errors.TreeError.TheVariants as tree
use Rattle.page_laws.specs.declared.root.Root.{Root}
use Rattle.page_laws.specs.declared.rule.Rule.{Rule}
use Rattle.page_laws.specs.declared.rule.Rule.TheVariants as rule
use Rattle.bptree_node.specs.declared.rows.Branch.{Branch}
use Rattle.bptree_node.specs.Nodes.{Node, Leaf, Inner, node_in}
use Rattle.bptree_node.specs.Trees.{places_at, node_branches}

-- whether a page is a node of the kind of this level
abbrev pub is_node_of : ℕ → Option Node → Bool
is_node_of zero (Some (Leaf entries)) = true
is_node_of zero (Some (Inner branches)) = false
is_node_of (suc l) (Some (Leaf entries)) = false
is_node_of (suc l) (Some (Inner branches)) = true
is_node_of l None = false

-- the root isn't live, which page 1 names
pub record IsLostRoot (is_live : ℕ → Bool) (root : Root) (page : ℕ) : Type 0 where
  pub named : page ≡ 1
  pub some : 0 < root.height
  pub lost : is_live root.page ≡ false

-- the page is an inner node's under this root, and names a child that isn't live
pub record HasLostChild (pages : ℕ → List ℕ) (is_live : ℕ → Bool) (root : Root) (page : ℕ) : Type 0 where
  pub level : ℕ
  pub is : Contains (places_at pages root) (record { level = suc level; page = page })
  pub branch : Branch
  pub among : Contains (node_branches (node_in (pages page))) branch
  pub lost : is_live branch.child ≡ false

-- the page is reached from this root at a level of which it is no node
pub record IsNoNode (pages : ℕ → List ℕ) (root : Root) (page : ℕ) : Type 0 where
  pub level : ℕ
  pub is : Contains (places_at pages root) (record { level = level; page = page })
  pub none : is_node_of level (node_in (pages page)) ≡ false

-- the page breaks the rule, as a walk from this root tests it
abbrev pub Breaks : (ℕ → List ℕ) → (ℕ → Bool) → Root → ℕ → Rule → Type 0
Breaks pages is_live root page rule.Size = ⊥
Breaks pages is_live root page rule.Journal = ⊥
Breaks pages is_live root page rule.Profile = ⊥
Breaks pages is_live root page rule.Pivot = ⊥
Breaks pages is_live root page rule.Page = IsLostRoot is_live root page ⊎ HasLostChild pages is_live root page
Breaks pages is_live root page rule.Node = IsNoNode pages root page
Breaks pages is_live root page rule.Fill = ⊥
Breaks pages is_live root page rule.Order = ⊥
Breaks pages is_live root page rule.Key = ⊥
Breaks pages is_live root page rule.Box = ⊥
Breaks pages is_live root page rule.Slot = ⊥
Breaks pages is_live root page rule.Match = ⊥

-- what an error says to be damaged breaks the rule named
abbrev pub TellsDamage : (ℕ → List ℕ) → (ℕ → Bool) → Root → TreeError → Type 0
TellsDamage pages is_live root (tree.Damaged page rule) = Breaks pages is_live root page rule
TellsDamage pages is_live root tree.Fault = Unit {0}
TellsDamage pages is_live root tree.Memory = Unit {0}

abbrev pub IsDamageOf : {A : Type 0} → (ℕ → List ℕ) → (ℕ → Bool) → Root → Result A TreeError → Type 0
IsDamageOf pages is_live root (Ok _) = Unit {0}
IsDamageOf pages is_live root (Err why) = TellsDamage pages is_live root why

-- a walk tests two rules
abbrev pub IsWalkRule : Rule → Type 0
IsWalkRule r = (r ≡ rule.Page) ⊎ (r ≡ rule.Node)

abbrev pub TellsWalkRule : TreeError → Type 0
TellsWalkRule (tree.Damaged page rule) = IsWalkRule rule
TellsWalkRule tree.Fault = Unit {0}
TellsWalkRule tree.Memory = Unit {0}

abbrev pub NamesWalkRule : {A : Type 0} → Result A TreeError → Type 0
NamesWalkRule (Ok _) = Unit {0}
NamesWalkRule (Err why) = TellsWalkRule why
