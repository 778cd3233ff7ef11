-- What reading the object of an entry answers.
use Rattle.std.specs.Prelude.{◌≡◌, ℕ, Bool, false, List, Result, Ok, Err, ◌⊎◌}
use Rattle.metric_laws.specs.Objects.{Object}
use Rattle.page_laws.specs.declared.errors.TreeError.{TreeError}
use Rattle.page_laws.specs.declared.errors.TreeError.TheVariants as tree
use Rattle.page_laws.specs.declared.rule.Rule.{Rule}
use Rattle.page_laws.specs.declared.rule.Rule.TheVariants as rule
use Rattle.bptree_node.specs.declared.rows.Entry.{Entry}
use Rattle.object_file.specs.Slots.{Holds}
use Rattle.object_file.specs.ObjectFile.{Slots, is_filled, slot_at, slot_page}

-- the entry's slot is free, which page 1 names
pub record IsFreeSlot (slots : Slots) (slot page : ℕ) : Type 0 where
  pub named : page ≡ 1
  pub free : is_filled slots slot ≡ false

-- the entry's slot holds no such object, which the slot's page shows
pub record IsOtherSlot (admitted : Object → Type 0) (pages : ℕ → List ℕ) (collection : ℕ) (e : Entry) (page : ℕ) : Type 0 where
  pub named : page ≡ slot_page e.slot
  pub other : (object : Object) → slot_at pages e.slot ≡ Holds collection e.id object → admitted object → ⊥

-- the object that was read is the entry's and admitted, or what is said to be damaged is
abbrev pub ReadsSlot : {A : Type 0} → (Object → Type 0) → Slots → (ℕ → List ℕ) → ℕ → Entry → Result A TreeError → Object → Type 0
ReadsSlot admitted slots pages collection e (Ok _) object = (slot_at pages e.slot ≡ Holds collection e.id object) × admitted object
ReadsSlot admitted slots pages collection e (Err (tree.Damaged page r)) object =
    (r ≡ rule.Slot) × (IsFreeSlot slots e.slot page ⊎ IsOtherSlot admitted pages collection e page)
ReadsSlot admitted slots pages collection e (Err tree.Fault) object = Unit {0}
ReadsSlot admitted slots pages collection e (Err tree.Memory) object = Unit {0}

-- what is said to be damaged is page 1 if the slot is free, and the slot's page otherwise
abbrev pub NamesSlotOf : {A : Type 0} → Slots → ℕ → Result A TreeError → Type 0
NamesSlotOf slots slot (Ok _) = Unit {0}
NamesSlotOf slots slot (Err (tree.Damaged page r)) = (r ≡ rule.Slot) × (IsFreeSlot slots slot page ⊎ (page ≡ slot_page slot))
NamesSlotOf slots slot (Err tree.Fault) = Unit {0}
NamesSlotOf slots slot (Err tree.Memory) = Unit {0}
