-- The verdict on an entry of a curve tree, and what is said to be damaged of it.
use Rattle.std.specs.Prelude.{◌≡◌, ℕ, ◌+◌, nat_le, List, [], Result, Ok, Err, ◌⊎◌}
use Rattle.metric_laws.specs.Objects.{Object, Distance}
use Rattle.metric_laws.specs.Log.{MeasuredPair}
use Rattle.spb_edge.specs.Counts.{one_if}
use Rattle.page_laws.specs.declared.errors.TreeError.{TreeError}
use Rattle.page_laws.specs.declared.errors.TreeError.TheVariants as tree
use Rattle.page_laws.specs.declared.rule.Rule.{Rule}
use Rattle.page_laws.specs.declared.rule.Rule.TheVariants as rule
use Rattle.curve_laws.specs.Grid.{IsKey}
use Rattle.bptree_node.specs.declared.rows.Entry.{Entry}
use Rattle.object_file.specs.Slots.{Slot, Free, Holds, Broken}
use Rattle.object_file.specs.ObjectFile.{Slots, slot_at, slot_page}
use Rattle.pivot_map.specs.Verdicts.{query_verdict}
use Rattle.query_pass.specs.declared.verdict.Verdict.{Verdict}
use Rattle.query_pass.specs.Verdicts.{verdict_of, was_measured}
use Rattle.query_shelf.specs.Reading.{IsFreeSlot, IsOtherSlot}

-- ---- the verdict

-- the object in a slot, if there is one
abbrev pub object_of : Slot → Object
object_of (Holds collection id object) = object
object_of Free = []
object_of Broken = []

-- the object that an entry names
abbrev pub object_at : (ℕ → List ℕ) → Entry → Object
object_at pages e = object_of (slot_at pages e.slot)

-- the entry's slot holds its object, which is admitted
abbrev pub HoldsEntry : (Object → Type 0) → (ℕ → List ℕ) → ℕ → Entry → Type 0
HoldsEntry admitted pages collection e = (slot_at pages e.slot ≡ Holds collection e.id (object_at pages e)) × admitted (object_at pages e)

-- the verdict on the query and an entry, by the cell of its key and the object that it names
abbrev pub verdict_at : Distance → (ℕ → List ℕ) → List ℕ → Object → ℕ → (ℕ → List ℕ) → Entry → Verdict
verdict_at dist cell_of asked query radius pages e = verdict_of (query_verdict asked radius (cell_of e.key)) (nat_le (dist query (object_at pages e)) radius)

-- the query and the object that an entry names
abbrev pub pair_at : Object → (ℕ → List ℕ) → Entry → MeasuredPair
pair_at query pages e = (query, object_at pages e)

-- ---- the count and the damage

-- the ruler's count rises by one if the verdict was measured, and stays otherwise
abbrev pub CountsVerdict : Result Verdict TreeError → ℕ → ℕ → Type 0
CountsVerdict (Ok v) before now = now ≡ before + one_if (was_measured v)
CountsVerdict (Err why) before now = now ≡ before

-- the entry's key is none of the curve
pub record HasNoKey (axes bits : ℕ) (e : Entry) (page : ℕ) (r : Rule) : Type 0 where
  pub broken : r ≡ rule.Key
  pub named : page ≡ 1
  pub none : IsKey axes bits e.key → ⊥

-- the entry's slot is free or holds no such object
pub record HasNoSlot (admitted : Object → Type 0) (slots : Slots) (pages : ℕ → List ℕ) (collection : ℕ) (e : Entry) (page : ℕ) (r : Rule) : Type 0 where
  pub broken : r ≡ rule.Slot
  pub shown : IsFreeSlot slots e.slot page ⊎ IsOtherSlot admitted pages collection e page

-- what an error says to be damaged is the entry's key or its slot
abbrev pub TellsOfEntry : (Object → Type 0) → (axes bits : ℕ) → Slots → (ℕ → List ℕ) → ℕ → Entry → TreeError → Type 0
TellsOfEntry admitted axes bits slots pages collection e (tree.Damaged page r) = HasNoKey axes bits e page r ⊎ HasNoSlot admitted slots pages collection e page r
TellsOfEntry admitted axes bits slots pages collection e tree.Fault = Unit {0}
TellsOfEntry admitted axes bits slots pages collection e tree.Memory = Unit {0}

abbrev pub TellsEntry : {A : Type 0} → (Object → Type 0) → (axes bits : ℕ) → Slots → (ℕ → List ℕ) → ℕ → Entry → Result A TreeError → Type 0
TellsEntry admitted axes bits slots pages collection e (Ok _) = Unit {0}
TellsEntry admitted axes bits slots pages collection e (Err why) = TellsOfEntry admitted axes bits slots pages collection e why

-- ---- which rules are named, whatever the pages hold

-- page 1 if the slot is free, and the slot's page otherwise
pub record IsSlotRule (slots : Slots) (page : ℕ) (r : Rule) : Type 0 where
  pub broken : r ≡ rule.Slot
  pub slot : ℕ
  pub named : IsFreeSlot slots slot page ⊎ (page ≡ slot_page slot)

abbrev pub IsKeyRule : ℕ → Rule → Type 0
IsKeyRule page r = (r ≡ rule.Key) × (page ≡ 1)

abbrev pub TellsEntryRule : Slots → TreeError → Type 0
TellsEntryRule slots (tree.Damaged page r) = IsKeyRule page r ⊎ IsSlotRule slots page r
TellsEntryRule slots tree.Fault = Unit {0}
TellsEntryRule slots tree.Memory = Unit {0}

abbrev pub NamesEntryRule : {A : Type 0} → Slots → Result A TreeError → Type 0
NamesEntryRule slots (Ok _) = Unit {0}
NamesEntryRule slots (Err why) = TellsEntryRule slots why
