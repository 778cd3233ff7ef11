-- The rows of a node, as they are put into the queue.
use Rattle.std.specs.Prelude.{◌≡◌, ℕ, ◌⊎◌, false, List, ◌∷◌, ◌++◌, map, None, IsTrue, Contains, IsPermutation}
use Rattle.std.specs.List.{AllByRecursion}
use Rattle.page_laws.specs.declared.errors.TreeError.{TreeError}
use Rattle.page_laws.specs.declared.errors.TreeError.TheVariants as tree
use Rattle.page_laws.specs.declared.rule.Rule.TheVariants as rule
use Rattle.curve_laws.specs.Grid.{IsKey}
use Rattle.bptree_node.specs.declared.rows.Entry.{Entry}
use Rattle.bptree_node.specs.declared.rows.Branch.{Branch}
use Rattle.object_file.specs.ObjectFile.{is_filled}
use Rattle.box_corner.specs.CurveBoxes.{branch_box}
use Rattle.spb_defs.specs.Scans.{Rank}
use Rattle.near_search.specs.declared.queue.Waiting.{Waiting}
use Rattle.near_search.specs.Queue.{IsPruned}
use Rattle.shelf_tree.specs.Contents.{TreeContent}

-- the item was put in, or k of the ranks prune it
abbrev pub IsOffered : ℕ → List Rank → Waiting → List Waiting → List Waiting → Type 0
IsOffered k ranks item old new = ((new ≡ old) × IsPruned k ranks item) ⊎ IsPermutation (item ∷ old) new

-- The rows were put in as items, but for some that k of the ranks prune, and this holds of each.
pub record ArePutIn {A : Type 0} (k : ℕ) (ranks : List Rank) (item : A → Waiting) (good : A → Type 0) (rows : List A) (old new : List Waiting) : Type 0 where
  pub put_in : List Waiting
  pub left_out : List Waiting
  pub parts : IsPermutation (map item rows) (put_in ++ left_out)
  pub added : IsPermutation (put_in ++ old) new
  pub shut : AllByRecursion (IsPruned k ranks) left_out
  pub good_rows : AllByRecursion good rows

-- one of the rows is the cause
pub record IsOneOf {A : Type 0} (breaks : A → TreeError → Type 0) (rows : List A) (why : TreeError) : Type 0 where
  pub row : A
  pub among : Contains rows row
  pub broken : breaks row why

-- what is said to be damaged has one of the rows as its cause; no page was asked for
abbrev pub IsRowCause : {A : Type 0} → (A → TreeError → Type 0) → List A → TreeError → Type 0
IsRowCause breaks rows (tree.Damaged page r) = IsOneOf breaks rows (tree.Damaged page r)
IsRowCause breaks rows tree.Fault = ⊥
IsRowCause breaks rows tree.Memory = Unit {0}

-- the entry's key is none of the curve, or its slot is free
abbrev pub BreaksEntry : TreeContent → ℕ → Entry → TreeError → Type 0
BreaksEntry s page e why =
    ((why ≡ tree.Damaged page rule.Key) × (IsKey s.axes s.bits e.key → ⊥)) ⊎ ((why ≡ tree.Damaged page rule.Slot) × (is_filled s.slots e.slot ≡ false))

-- the branch has corners of no box, or its child isn't live
abbrev pub BreaksBranch : TreeContent → ℕ → Branch → TreeError → Type 0
BreaksBranch s page b why =
    ((why ≡ tree.Damaged page rule.Box) × (branch_box s.axes s.bits s.cell_of b.low b.high ≡ None))
    ⊎ ((why ≡ tree.Damaged page rule.Page) × (s.is_live b.child ≡ false))

abbrev pub HasFilledSlot : TreeContent → Entry → Type 0
HasFilledSlot s e = IsTrue (is_filled s.slots e.slot)

abbrev pub HasLiveChild : TreeContent → Branch → Type 0
HasLiveChild s b = IsTrue (s.is_live b.child)
