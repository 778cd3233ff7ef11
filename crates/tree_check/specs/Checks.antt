-- What a check of a node and of all under it says.
use Rattle.std.specs.Prelude.{◌≡◌, ◌⊎◌, ℕ, zero, suc, ◌+◌, ◌≤◌, ◌<◌, Bool, true, false, IsTrue, ◌&&◌, ◌==◌, List, [], ◌∷◌, ◌++◌, length, Option, Some, None, Result, Ok, Err}
use Rattle.page_laws.specs.declared.errors.TreeError.{TreeError}
use Rattle.page_laws.specs.declared.errors.TreeError.TheVariants as tree
use Rattle.page_laws.specs.declared.root.Root.{Root}
use Rattle.page_laws.specs.declared.rule.Rule.TheVariants as rule
use Rattle.bptree_node.specs.declared.rows.Entry.{Entry}
use Rattle.bptree_node.specs.declared.rows.Branch.{Branch}
use Rattle.bptree_node.specs.Nodes.{Leaf, node_in}
use Rattle.bptree_node.specs.Summaries.{summary_of, HasCorners}
use Rattle.bptree_node.specs.Trees.{IsRising, IsTree, list_at, pages_at}
use Rattle.bptree_edit.specs.Changes.{HaveBoxes}
use Rattle.bptree_edit.specs.NodesAt.{times, list_under, pages_under, list_under_all, pages_under_all, rows_in, AreNodesUnder, AreChildren}
use Rattle.tree_check.specs.declared.node.Checked.{Checked}
use Rattle.tree_check.specs.declared.node.Spot.{Spot}
use Rattle.tree_check.specs.PageSets.{Marks, uses}
use Rattle.tree_check.specs.Damage.{ends_before, TellsBreak}

-- whether the first entry has this key and this id
abbrev pub has_first : ℕ → ℕ → List Entry → Bool
has_first key id [] = false
has_first key id (e ∷ es) = (e.key == key) && (e.id == id)

-- ---- one node

-- what was gathered under a node or under branches: the entries follow the old ones, and the pages, which are live, join
-- those used
pub record Gathers (live : ℕ → Bool) (list : List Entry) (numbers : List ℕ) (old_used new_used : Marks) (old new : List Entry) : Type 0 where
  pub entries : new ≡ old ++ list
  pub used : (m : ℕ) → uses new_used m ≡ uses old_used m + times m numbers
  pub alive : (m : ℕ) → 0 < times m numbers → IsTrue (live m)

-- the page and those under it are nodes of a tree, with this summary and so many rows, and were gathered
pub record IsChecked {S : Type 0} (joined : S → S → S) (entry_box : Entry → Option S) (keys : S → ℕ × ℕ) (pages : ℕ → List ℕ) (live : ℕ → Bool) (l n : ℕ)
    (old_used new_used : Marks) (old new : List Entry) (checked : Checked S) : Type 0 where
  pub nodes : AreNodesUnder (HasCorners joined entry_box keys) pages l n
  pub rising : IsRising (list_under pages l n)
  pub summary : summary_of joined entry_box (list_under pages l n) ≡ Some checked.summary
  pub rows : checked.rows ≡ rows_in (node_in (pages n))
  pub gathers : Gathers live (list_under pages l n) (pages_under pages l n) old_used new_used old new

-- the same of an inner node and of what is under its first branches
pub record AreChecked (are_corners : List Entry → ℕ → ℕ → Type 0) (pages : ℕ → List ℕ) (live : ℕ → Bool) (l n : ℕ) (branches : List Branch)
    (old_used new_used : Marks) (old new : List Entry) : Type 0 where
  pub children : AreChildren are_corners pages l branches
  pub rising : IsRising (list_under_all pages l branches)
  pub gathers : Gathers live (list_under_all pages l branches) (n ∷ pages_under_all pages l branches) old_used new_used old new

-- the node is checked, or the page named breaks the rule named
abbrev pub Checks : {S : Type 0} → (S → S → S) → (Entry → Option S) → (S → ℕ × ℕ) → (ℕ → List ℕ) → (ℕ → Bool) → Spot → (old_used new_used : Marks) → (old new : List Entry)
    → Result (Checked S) TreeError → Type 0
Checks joined entry_box keys pages live at old_used new_used old new (Ok checked) =
    IsChecked joined entry_box keys pages live at.level at.page old_used new_used old new checked
Checks joined entry_box keys pages live at old_used new_used old new (Err why) =
    TellsBreak entry_box (HasCorners joined entry_box keys) pages live (λ m. uses old_used m + times m (pages_under pages at.level at.page)) at.parent at.level at.page why

-- ---- one leaf

-- the page is a leaf whose entries rise, with this summary and so many rows, and its entries follow the old ones
pub record IsLeafChecked {S : Type 0} (joined : S → S → S) (entry_box : Entry → Option S) (page : List ℕ) (old new : List Entry) (checked : Checked S) : Type 0 where
  pub entries : List Entry
  pub node : node_in page ≡ Some (Leaf entries)
  pub rising : IsRising entries
  pub summary : summary_of joined entry_box entries ≡ Some checked.summary
  pub rows : checked.rows ≡ length entries
  pub are : new ≡ old ++ entries

-- it is no leaf, its entries don't rise, or one of them has a key that is none of the tree
abbrev pub IsLeafBroken : {S : Type 0} → (S → S → S) → (Entry → Option S) → ℕ → List ℕ → TreeError → Type 0
IsLeafBroken joined entry_box n page why =
    ((why ≡ tree.Damaged n rule.Node) × ((entries : List Entry) → node_in page ≡ Some (Leaf entries) → ⊥))
    ⊎ ((entries : List Entry) × ((node_in page ≡ Some (Leaf entries)) × (((why ≡ tree.Damaged n rule.Order) × (IsRising entries → ⊥))
    ⊎ ((why ≡ tree.Damaged n rule.Key) × (1 ≤ length entries) × (summary_of joined entry_box entries ≡ None)))))

abbrev pub ChecksLeaf : {S : Type 0} → (S → S → S) → (Entry → Option S) → ℕ → List ℕ → (old new : List Entry) → Result (Checked S) TreeError → Type 0
ChecksLeaf joined entry_box n page old new (Ok checked) = IsLeafChecked joined entry_box page old new checked
ChecksLeaf joined entry_box n page old new (Err why) = IsLeafBroken joined entry_box n page why ⊎ (why ≡ tree.Memory)

-- ---- one branch

-- the branch says what is under it, and goes behind what is under those before it
pub record IsMatched {S : Type 0} (keys : S → ℕ × ℕ) (least : ℕ) (branch : Branch) (before under : List Entry) (child : Checked S) : Type 0 where
  pub filled : least ≤ child.rows
  pub first : has_first branch.key branch.id under ≡ true
  pub ends : ends_before branch.key branch.id before ≡ true
  pub corners : keys child.summary ≡ (branch.low, branch.high)

-- it doesn't, which breaks a rule
abbrev pub IsUnmatched : {S : Type 0} → (S → ℕ × ℕ) → ℕ → ℕ → Branch → (before under : List Entry) → Checked S → TreeError → Type 0
IsUnmatched keys least n branch before under child why =
    ((why ≡ tree.Damaged branch.child rule.Fill) × (child.rows < least))
    ⊎ (((why ≡ tree.Damaged n rule.Order) × ((has_first branch.key branch.id under ≡ false) ⊎ (ends_before branch.key branch.id before ≡ false)))
    ⊎ ((why ≡ tree.Damaged n rule.Box) × (keys child.summary ≡ (branch.low, branch.high) → ⊥)))

-- ---- a tree

-- the tree is sound, each entry has a key of the tree, and no page of it was used
pub record IsSoundTree {S : Type 0} (joined : S → S → S) (entry_box : Entry → Option S) (keys : S → ℕ × ℕ) (pages : ℕ → List ℕ) (live : ℕ → Bool) (used : Marks) (root : Root) : Type 0 where
  pub tree : IsTree (HasCorners joined entry_box keys) pages live root
  pub keys_are : HaveBoxes entry_box (list_at pages root)
  pub unused : (m : ℕ) → uses used m + times m (pages_at pages root) ≤ 1

-- what an error says to be damaged breaks the rule named, in the tree of a root
abbrev pub TellsBreakAt : {S : Type 0} → (Entry → Option S) → (List Entry → ℕ → ℕ → Type 0) → (ℕ → List ℕ) → (ℕ → Bool) → Marks → (height page : ℕ) → TreeError → Type 0
TellsBreakAt entry_box are_corners pages live used zero root why = ⊥
TellsBreakAt entry_box are_corners pages live used (suc l) root why =
    TellsBreak entry_box are_corners pages live (λ m. uses used m + times m (pages_under pages l root)) 1 l root why

-- what is said of a tree: it is sound and was gathered, or the page named breaks the rule named
abbrev pub ChecksTree : {S : Type 0} → (S → S → S) → (Entry → Option S) → (S → ℕ × ℕ) → (ℕ → List ℕ) → (ℕ → Bool) → Root → (old_used new_used : Marks) → (old new : List Entry)
    → Result Unit TreeError → Type 0
ChecksTree joined entry_box keys pages live root old_used new_used old new (Ok _) =
    IsSoundTree joined entry_box keys pages live old_used root × Gathers live (list_at pages root) (pages_at pages root) old_used new_used old new
ChecksTree joined entry_box keys pages live root old_used new_used old new (Err why) =
    TellsBreakAt entry_box (HasCorners joined entry_box keys) pages live old_used root.height root.page why
