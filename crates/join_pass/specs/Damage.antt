-- Why a join says that pages are damaged.
use Rattle.std.specs.Prelude.{ℕ, Bool, List, Result, Ok, Err, Contains, ◌⊎◌}
use Rattle.metric_laws.specs.Objects.{Object}
use Rattle.page_laws.specs.declared.errors.TreeError.{TreeError}
use Rattle.page_laws.specs.declared.errors.TreeError.TheVariants as tree
use Rattle.page_laws.specs.declared.root.Root.{Root}
use Rattle.page_laws.specs.declared.rule.Rule.{Rule}
use Rattle.bptree_node.specs.declared.rows.Entry.{Entry}
use Rattle.bptree_node.specs.Trees.{IsBPlusTree, list_at}
use Rattle.bptree_walk.specs.Damage.{Breaks, IsWalkRule}
use Rattle.object_file.specs.ObjectFile.{Slots}
use Rattle.range_entries.specs.Entries.{HasNoKey, HasNoSlot, IsKeyRule, IsSlotRule}

-- an entry of the tree has no key of the curve, or its slot is free or holds no such object
pub record HasBrokenEntry (admitted : Object → Type 0) (axes bits : ℕ) (slots : Slots) (pages : ℕ → List ℕ) (collection : ℕ) (entries : List Entry)
    (page : ℕ) (r : Rule) : Type 0 where
  pub entry : Entry
  pub among : Contains entries entry
  pub broken : HasNoKey axes bits entry page r ⊎ HasNoSlot admitted slots pages collection entry page r

-- a page under the root breaks the rule of a walk, and so the root is that of no tree
pub record BreaksWalk (pages : ℕ → List ℕ) (live : ℕ → Bool) (root : Root) (page : ℕ) (r : Rule) : Type 0 where
  pub broken : Breaks pages live root page r
  pub unsound : IsBPlusTree pages live root → ⊥

-- a join of this tree finds the rule broken
abbrev pub BreaksJoin : (Object → Type 0) → (axes bits : ℕ) → Slots → (ℕ → List ℕ) → (ℕ → Bool) → ℕ → Root → ℕ → Rule → Type 0
BreaksJoin admitted axes bits slots pages live collection root page r =
    BreaksWalk pages live root page r ⊎ HasBrokenEntry admitted axes bits slots pages collection (list_at pages root) page r

abbrev pub TellsOfJoin : (Object → Type 0) → (axes bits : ℕ) → Slots → (ℕ → List ℕ) → (ℕ → Bool) → ℕ → Root → TreeError → Type 0
TellsOfJoin admitted axes bits slots pages live collection root (tree.Damaged page r) = BreaksJoin admitted axes bits slots pages live collection root page r
TellsOfJoin admitted axes bits slots pages live collection root tree.Fault = Unit {0}
TellsOfJoin admitted axes bits slots pages live collection root tree.Memory = Unit {0}

-- what an error says to be damaged breaks the rule named, as a join of this tree tests it
abbrev pub TellsJoin : {A : Type 0} → (Object → Type 0) → (axes bits : ℕ) → Slots → (ℕ → List ℕ) → (ℕ → Bool) → ℕ → Root → Result A TreeError → Type 0
TellsJoin admitted axes bits slots pages live collection root (Ok _) = Unit {0}
TellsJoin admitted axes bits slots pages live collection root (Err why) = TellsOfJoin admitted axes bits slots pages live collection root why

-- ---- which rules are named, whatever the pages hold

abbrev pub TellsJoinRule : Slots → TreeError → Type 0
TellsJoinRule slots (tree.Damaged page r) = IsWalkRule r ⊎ IsKeyRule page r ⊎ IsSlotRule slots page r
TellsJoinRule slots tree.Fault = Unit {0}
TellsJoinRule slots tree.Memory = Unit {0}

abbrev pub NamesJoinRule : {A : Type 0} → Slots → Result A TreeError → Type 0
NamesJoinRule slots (Ok _) = Unit {0}
NamesJoinRule slots (Err why) = TellsJoinRule slots why
