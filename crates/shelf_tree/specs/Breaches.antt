-- Which nodes may be opened and which objects measured, and what is damaged if they aren't.
use Rattle.std.specs.Prelude.{◌≡◌, ℕ, suc, false, IsTrue, length, None, Contains}
use Rattle.metric_laws.specs.Objects.{Object}
use Rattle.page_laws.specs.declared.errors.TreeError.{TreeError}
use Rattle.page_laws.specs.declared.errors.TreeError.TheVariants as tree
use Rattle.page_laws.specs.declared.rule.Rule.{Rule}
use Rattle.page_laws.specs.declared.rule.Rule.TheVariants as rule
use Rattle.curve_laws.specs.Grid.{IsKey}
use Rattle.bptree_node.specs.declared.rows.Entry.{Entry}
use Rattle.bptree_node.specs.declared.rows.Branch.{Branch}
use Rattle.bptree_node.specs.Nodes.{node_in}
use Rattle.bptree_node.specs.Trees.{list_at, places_at, node_entries, node_branches}
use Rattle.bptree_walk.specs.Damage.{HasLostChild, IsNoNode}
use Rattle.object_file.specs.ObjectFile.{is_filled, HasSlots}
use Rattle.box_corner.specs.CurveBoxes.{branch_box}
use Rattle.query_shelf.specs.Reading.{IsOtherSlot}
use Rattle.shelf_tree.specs.Contents.{TreeContent}

-- the pages of all slots are there, and the query has a coordinate for each axis
pub record IsReady (s : TreeContent) : Type 0 where
  pub slots : HasSlots s.has s.slots.cap
  pub axes : length s.asked ≡ s.axes

-- a live page, under the root at this level if that is known
pub record CanOpen (s : TreeContent) (level page : ℕ) : Type 0 where
  pub ready : IsReady s
  pub live : IsTrue (s.is_live page)
  pub part : IsTrue s.is_known → Contains (places_at s.page_at s.root) (record { level = level; page = page })

-- an entry of the tree has this id and slot
pub record IsNamed (s : TreeContent) (id slot : ℕ) : Type 0 where
  pub key : ℕ
  pub listed : Contains (list_at s.page_at s.root) (record { key = key; id = id; slot = slot })

-- a filled slot, named by an entry of this id if that is known
pub record CanMeasure (s : TreeContent) (id slot : ℕ) : Type 0 where
  pub ready : IsReady s
  pub filled : IsTrue (is_filled s.slots slot)
  pub named : IsTrue s.is_known → IsNamed s id slot

-- ---- what is damaged

-- the page is an inner node's, and has a branch whose corners are those of no box
pub record HasNoBox (s : TreeContent) (page : ℕ) : Type 0 where
  pub level : ℕ
  pub is : Contains (places_at s.page_at s.root) (record { level = suc level; page = page })
  pub branch : Branch
  pub among : Contains (node_branches (node_in (s.page_at page))) branch
  pub none : branch_box s.axes s.bits s.cell_of branch.low branch.high ≡ None

-- the page is a leaf's, and has an entry whose key is none of the curve
pub record HasNoKey (s : TreeContent) (page : ℕ) : Type 0 where
  pub is : Contains (places_at s.page_at s.root) (record { level = 0; page = page })
  pub entry : Entry
  pub among : Contains (node_entries (node_in (s.page_at page))) entry
  pub none : IsKey s.axes s.bits entry.key → ⊥

-- the page is a leaf's, and has an entry whose slot is free
pub record HasFreeSlot (s : TreeContent) (page : ℕ) : Type 0 where
  pub is : Contains (places_at s.page_at s.root) (record { level = 0; page = page })
  pub entry : Entry
  pub among : Contains (node_entries (node_in (s.page_at page))) entry
  pub free : is_filled s.slots entry.slot ≡ false

-- the page is that of a slot which holds no such object as an entry of the tree names
pub record HasOtherObject (admitted : Object → Type 0) (s : TreeContent) (page : ℕ) : Type 0 where
  pub entry : Entry
  pub listed : Contains (list_at s.page_at s.root) entry
  pub other : IsOtherSlot admitted s.page_at s.collection entry page

-- a node that was read breaks the rule
abbrev pub NodeBreaks : TreeContent → ℕ → Rule → Type 0
NodeBreaks s page rule.Size = ⊥
NodeBreaks s page rule.Journal = ⊥
NodeBreaks s page rule.Profile = ⊥
NodeBreaks s page rule.Pivot = ⊥
NodeBreaks s page rule.Page = HasLostChild s.page_at s.is_live s.root page
NodeBreaks s page rule.Node = IsNoNode s.page_at s.root page
NodeBreaks s page rule.Fill = ⊥
NodeBreaks s page rule.Order = ⊥
NodeBreaks s page rule.Key = HasNoKey s page
NodeBreaks s page rule.Box = HasNoBox s page
NodeBreaks s page rule.Slot = HasFreeSlot s page
NodeBreaks s page rule.Match = ⊥

-- what an error says to be damaged is a node, which breaks the rule
abbrev pub TellsOfNode : TreeContent → TreeError → Type 0
TellsOfNode s (tree.Damaged page r) = IsTrue s.is_known → NodeBreaks s page r
TellsOfNode s tree.Fault = Unit {0}
TellsOfNode s tree.Memory = Unit {0}

-- and if an object wasn't measured, its slot
abbrev pub TellsOfObject : TreeContent → (Object → Type 0) → TreeError → Type 0
TellsOfObject s admitted (tree.Damaged page r) = IsTrue s.is_known → (r ≡ rule.Slot) × HasOtherObject admitted s page
TellsOfObject s admitted tree.Fault = Unit {0}
TellsOfObject s admitted tree.Memory = Unit {0}

-- ---- which rules are tested, whatever the pages hold

abbrev pub IsQueryRule : Rule → Type 0
IsQueryRule rule.Size = ⊥
IsQueryRule rule.Journal = ⊥
IsQueryRule rule.Profile = ⊥
IsQueryRule rule.Pivot = ⊥
IsQueryRule rule.Page = Unit {0}
IsQueryRule rule.Node = Unit {0}
IsQueryRule rule.Fill = ⊥
IsQueryRule rule.Order = ⊥
IsQueryRule rule.Key = Unit {0}
IsQueryRule rule.Box = Unit {0}
IsQueryRule rule.Slot = Unit {0}
IsQueryRule rule.Match = ⊥

abbrev pub TellsQueryRule : TreeError → Type 0
TellsQueryRule (tree.Damaged page r) = IsQueryRule r
TellsQueryRule tree.Fault = Unit {0}
TellsQueryRule tree.Memory = Unit {0}
