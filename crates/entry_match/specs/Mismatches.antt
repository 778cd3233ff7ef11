-- What is wrong with a tree whose entries are to match slots, and which page and which rule are named for it.
use Rattle.std.specs.Prelude.{◌≡◌, ◌⊎◌, ℕ, zero, suc, ◌+◌, Bool, false, IsTrue, List, Option, Some, None, Result, Ok, Err, Contains, All}
use Rattle.std.specs.List.{slice_get}
use Rattle.page_laws.specs.declared.errors.TreeError.{TreeError}
use Rattle.page_laws.specs.declared.errors.TreeError.TheVariants as tree
use Rattle.page_laws.specs.declared.root.Root.{Root}
use Rattle.page_laws.specs.declared.rule.Rule.{Rule}
use Rattle.page_laws.specs.declared.rule.Rule.TheVariants as rule
use Rattle.bptree_node.specs.declared.rows.Entry.{Entry}
use Rattle.bptree_node.specs.Nodes.{node_in}
use Rattle.bptree_node.specs.Summaries.{HasCorners}
use Rattle.bptree_node.specs.Trees.{node_entries, list_at, pages_at}
use Rattle.bptree_edit.specs.NodesAt.{times, pages_under}
use Rattle.tree_check.specs.PageSets.{Marks, uses}
use Rattle.tree_check.specs.Damage.{IsPlaced, Breaks}
use Rattle.tree_check.specs.Checks.{Gathers, IsSoundTree}
use Rattle.slot_notes.specs.declared.notes.SlotNote.{SlotNote}
use Rattle.entry_match.specs.Matching.{is_named, is_keyed, is_match}

-- ---- entries

-- the entry breaks the rule: its slot isn't one that holds its id in the collection, its key is none of the tree, or it
-- isn't the key of the object in its slot
abbrev pub BreaksEntry : {S : Type 0} → (Entry → Option S) → List SlotNote → ℕ → Bool → Entry → Rule → Type 0
BreaksEntry entry_box notes c by_key e rule.Size = ⊥
BreaksEntry entry_box notes c by_key e rule.Journal = ⊥
BreaksEntry entry_box notes c by_key e rule.Profile = ⊥
BreaksEntry entry_box notes c by_key e rule.Pivot = ⊥
BreaksEntry entry_box notes c by_key e rule.Page = ⊥
BreaksEntry entry_box notes c by_key e rule.Node = ⊥
BreaksEntry entry_box notes c by_key e rule.Fill = ⊥
BreaksEntry entry_box notes c by_key e rule.Order = ⊥
BreaksEntry entry_box notes c by_key e rule.Key =
    (entry_box e ≡ None) ⊎ (IsTrue (is_named c e (slice_get notes e.slot)) × IsTrue by_key × (is_keyed e (slice_get notes e.slot) ≡ false))
BreaksEntry entry_box notes c by_key e rule.Box = ⊥
BreaksEntry entry_box notes c by_key e rule.Slot = is_named c e (slice_get notes e.slot) ≡ false
BreaksEntry entry_box notes c by_key e rule.Match = ⊥

-- an entry that breaks a rule is among these
pub record HasBroken {S : Type 0} (entry_box : Entry → Option S) (notes : List SlotNote) (c : ℕ) (by_key : Bool) (entries : List Entry) (r : Rule) : Type 0 where
  pub entry : Entry
  pub among : Contains entries entry
  pub breaks : BreaksEntry entry_box notes c by_key entry r

-- ---- trees

-- the page is a live leaf, under page `n` at level `l`, of which an entry breaks the rule
pub record HasBrokenLeaf {S : Type 0} (entry_box : Entry → Option S) (notes : List SlotNote) (c : ℕ) (by_key : Bool) (pages : ℕ → List ℕ) (live : ℕ → Bool) (l n page : ℕ) (r : Rule) : Type 0 where
  pub placed : IsPlaced pages l n 0 page
  pub alive : IsTrue (live page)
  pub entries : HasBroken entry_box notes c by_key (node_entries (node_in (pages page))) r

-- The page breaks the rule, in the tree that page `n` at level `l` and those under it are.
abbrev pub BreaksMatch : {S : Type 0} → (S → S → S) → (Entry → Option S) → (S → ℕ × ℕ) → List SlotNote → ℕ → Bool → (ℕ → List ℕ) → (ℕ → Bool) → (ℕ → ℕ) → (l n page : ℕ) → Rule → Type 0
BreaksMatch joined entry_box keys notes c by_key pages live reached l n page rule.Size = ⊥
BreaksMatch joined entry_box keys notes c by_key pages live reached l n page rule.Journal = ⊥
BreaksMatch joined entry_box keys notes c by_key pages live reached l n page rule.Profile = ⊥
BreaksMatch joined entry_box keys notes c by_key pages live reached l n page rule.Pivot = ⊥
BreaksMatch joined entry_box keys notes c by_key pages live reached l n page rule.Page = Breaks entry_box (HasCorners joined entry_box keys) pages live reached 1 l n page rule.Page
BreaksMatch joined entry_box keys notes c by_key pages live reached l n page rule.Node = Breaks entry_box (HasCorners joined entry_box keys) pages live reached 1 l n page rule.Node
BreaksMatch joined entry_box keys notes c by_key pages live reached l n page rule.Fill = Breaks entry_box (HasCorners joined entry_box keys) pages live reached 1 l n page rule.Fill
BreaksMatch joined entry_box keys notes c by_key pages live reached l n page rule.Order = Breaks entry_box (HasCorners joined entry_box keys) pages live reached 1 l n page rule.Order
BreaksMatch joined entry_box keys notes c by_key pages live reached l n page rule.Key = HasBrokenLeaf entry_box notes c by_key pages live l n page rule.Key
BreaksMatch joined entry_box keys notes c by_key pages live reached l n page rule.Box = Breaks entry_box (HasCorners joined entry_box keys) pages live reached 1 l n page rule.Box
BreaksMatch joined entry_box keys notes c by_key pages live reached l n page rule.Slot = HasBrokenLeaf entry_box notes c by_key pages live l n page rule.Slot
BreaksMatch joined entry_box keys notes c by_key pages live reached l n page rule.Match = ⊥

-- the same from a root, where some pages were used before
abbrev pub BreaksMatchAt : {S : Type 0} → (S → S → S) → (Entry → Option S) → (S → ℕ × ℕ) → List SlotNote → ℕ → Bool → (ℕ → List ℕ) → (ℕ → Bool) → Marks → (height root page : ℕ) → Rule → Type 0
BreaksMatchAt joined entry_box keys notes c by_key pages live used zero root page r = ⊥
BreaksMatchAt joined entry_box keys notes c by_key pages live used (suc l) root page r =
    BreaksMatch joined entry_box keys notes c by_key pages live (λ m. uses used m + times m (pages_under pages l root)) l root page r

-- what an error says to be damaged breaks the rule named
abbrev pub TellsMismatch : {S : Type 0} → (S → S → S) → (Entry → Option S) → (S → ℕ × ℕ) → List SlotNote → ℕ → Bool → (ℕ → List ℕ) → (ℕ → Bool) → Marks → Root → TreeError → Type 0
TellsMismatch joined entry_box keys notes c by_key pages live used root (tree.Damaged page r) =
    BreaksMatchAt joined entry_box keys notes c by_key pages live used root.height root.page page r
TellsMismatch joined entry_box keys notes c by_key pages live used root tree.Fault = Unit {0}
TellsMismatch joined entry_box keys notes c by_key pages live used root tree.Memory = Unit {0}

-- the tree is sound, no page of it was used, and its entries match their slots
pub record IsMatchedTree {S : Type 0} (joined : S → S → S) (entry_box : Entry → Option S) (keys : S → ℕ × ℕ) (notes : List SlotNote) (c : ℕ) (by_key : Bool) (pages : ℕ → List ℕ)
    (live : ℕ → Bool) (used : Marks) (root : Root) : Type 0 where
  pub sound : IsSoundTree joined entry_box keys pages live used root
  pub matched : All (λ (e : Entry). IsTrue (is_match notes c by_key e)) (list_at pages root)

-- what is said of a tree: it is sound, its entries match, and it was gathered; or the page named breaks the rule named
abbrev pub MatchesTree : {S : Type 0} → (S → S → S) → (Entry → Option S) → (S → ℕ × ℕ) → List SlotNote → ℕ → Bool → (ℕ → List ℕ) → (ℕ → Bool) → Root → (old_used new_used : Marks)
    → (old new : List Entry) → Result Unit TreeError → Type 0
MatchesTree joined entry_box keys notes c by_key pages live root old_used new_used old new (Ok _) =
    IsMatchedTree joined entry_box keys notes c by_key pages live old_used root × Gathers live (list_at pages root) (pages_at pages root) old_used new_used old new
MatchesTree joined entry_box keys notes c by_key pages live root old_used new_used old new (Err why) =
    TellsMismatch joined entry_box keys notes c by_key pages live old_used root why

-- the page named, if the rule named is that of keys
abbrev pub key_page : TreeError → Option ℕ
key_page (tree.Damaged page rule.Size) = None
key_page (tree.Damaged page rule.Journal) = None
key_page (tree.Damaged page rule.Profile) = None
key_page (tree.Damaged page rule.Pivot) = None
key_page (tree.Damaged page rule.Page) = None
key_page (tree.Damaged page rule.Node) = None
key_page (tree.Damaged page rule.Fill) = None
key_page (tree.Damaged page rule.Order) = None
key_page (tree.Damaged page rule.Key) = Some page
key_page (tree.Damaged page rule.Box) = None
key_page (tree.Damaged page rule.Slot) = None
key_page (tree.Damaged page rule.Match) = None
key_page tree.Fault = None
key_page tree.Memory = None
