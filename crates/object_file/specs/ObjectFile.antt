-- The slots of a file.
use Rattle.std.specs.Prelude.{◌≡◌, ℕ, ◌+◌, ◌/◌, ◌%◌, ◌≤◌, ◌<◌, nat_lt, Bool, IsTrue, List, Result, Ok, Err}
use Rattle.page_laws.specs.Pages.{is_live}
use Rattle.free_list.specs.FreeNumbers.{FreeNumbers}
use Rattle.page_laws.specs.declared.errors.TreeError.{TreeError}
use Rattle.page_laws.specs.declared.errors.TreeError.TheVariants as tree
use Rattle.page_laws.specs.declared.rule.Rule.TheVariants as rule
use Rattle.redo_journal.specs.declared.layout.TheConstants.{FIRST_HOME}
use Rattle.object_file.specs.declared.slots.SlotHead.{SlotHead}
use Rattle.object_file.specs.declared.file.TheConstants.{SLOTS_PER_PAGE}
use Rattle.object_file.specs.Slots.{Slot, Holds, slot_in}

-- how many slots there are, and those that are free in memory
pub record Slots : Type 0 where
  pub cap : ℕ
  pub free : List ℕ

-- whether there is a slot of this number
abbrev pub is_slot : ℕ → ℕ → Bool
is_slot cap slot = nat_lt slot cap

-- whether the slot is there and isn't free
abbrev pub is_filled : Slots → ℕ → Bool
is_filled s slot = is_live (is_slot s.cap) s.free slot

-- the slots that a list of free numbers stands for
abbrev pub slots_of : FreeNumbers → Slots
slots_of l = record { cap = l.count; free = l.numbers }

-- the slots are numbered from 0 on, and there are at most 65536
pub record AreSlots (l : FreeNumbers) : Type 0 where
  pub from : l.first ≡ 0
  pub few : l.count ≤ 65536

-- the page of a slot
abbrev pub slot_page : ℕ → ℕ
slot_page slot = FIRST_HOME + slot / SLOTS_PER_PAGE

-- a slot of the pages
abbrev pub slot_at : (ℕ → List ℕ) → ℕ → Slot
slot_at pages slot = slot_in (pages (slot_page slot)) (slot % SLOTS_PER_PAGE)

-- the pages of so many slots are there
abbrev pub HasSlots : (ℕ → Bool) → ℕ → Type 0
HasSlots has cap = (slot : ℕ) → slot < cap → IsTrue (has (slot_page slot))

-- the slot is this one now, and all other slots and pages are as they were
pub record SetsSlot (slot : ℕ) (content : Slot) (old new : ℕ → List ℕ) : Type 0 where
  pub here : slot_at new slot ≡ content
  pub others : (other : ℕ) → (other ≡ slot → ⊥) → slot_at new other ≡ slot_at old other
  pub elsewhere : (n : ℕ) → (n ≡ slot_page slot → ⊥) → new n ≡ old n

-- the slot holds nothing
abbrev pub IsUnfilled : Slot → Type 0
IsUnfilled slot = (collection id : ℕ) (object : List ℕ) → slot ≡ Holds collection id object → ⊥

-- what a reading of a slot answers, with the object that it gives
abbrev pub Gives : Slot → ℕ → Result SlotHead TreeError → List ℕ → Type 0
Gives slot page (Ok head) object = slot ≡ Holds head.collection head.id object
Gives slot page (Err (tree.Damaged n r)) object = (n ≡ page) × (r ≡ rule.Slot) × IsUnfilled slot
Gives slot page (Err tree.Fault) object = Unit {0}
Gives slot page (Err tree.Memory) object = Unit {0}

-- what is damaged is named by this page and the rule of slots
abbrev pub NamesSlot : ℕ → Result SlotHead TreeError → Type 0
NamesSlot page (Ok head) = Unit {0}
NamesSlot page (Err (tree.Damaged n r)) = (n ≡ page) × (r ≡ rule.Slot)
NamesSlot page (Err tree.Fault) = Unit {0}
NamesSlot page (Err tree.Memory) = Unit {0}
