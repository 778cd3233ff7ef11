-- A slot, by what its bytes read as.
use Rattle.std.specs.Prelude.{◌≡◌, ℕ, ◌+◌, ◌*◌, ◌==◌, nat_le, nat_lt, Bool, ◌&&◌, if◌then◌else◌, List, take, drop, slice_index}
use Rattle.page_laws.specs.Pages.{are_zero}
use Rattle.redo_journal.specs.Header.{leading_number}
use Rattle.object_file.specs.declared.slots.SlotContent.{SlotContent}
use Rattle.object_file.specs.declared.slots.SlotContent.TheVariants as content
use Rattle.object_file.specs.declared.slots.TheConstants.{SLOT_SIZE, OBJECT_LIMIT, OBJECT_AT, COLLECTIONS, FREE_MARK}

-- what a slot is: free, an object under a collection and an id, or neither
pub data Slot : Type 0 where
  Free : Slot
  Holds : ℕ → ℕ → List ℕ → Slot
  Broken : Slot

-- whether a slot's bytes are filled: a collection, the object's length, two zero bytes, an id, the object, and zeros
abbrev pub is_filled_slot : List ℕ → Bool
is_filled_slot bytes =
    nat_lt (slice_index bytes 0) COLLECTIONS && nat_le (slice_index bytes 1) OBJECT_LIMIT && are_zero (take 2 (drop 2 bytes))
    && are_zero (drop (OBJECT_AT + slice_index bytes 1) bytes)

-- the id in a slot's bytes
abbrev pub id_in : List ℕ → ℕ
id_in bytes = leading_number (drop 4 bytes)

-- what a slot's bytes read as
unfoldable pub slot_of : List ℕ → Slot
slot_of bytes =
    if slice_index bytes 0 == FREE_MARK then Free
    else if is_filled_slot bytes then Holds (slice_index bytes 0) (id_in bytes) (take (slice_index bytes 1) (drop OBJECT_AT bytes))
    else Broken

-- the bytes of the slot at a place of a page, from 0 to 3
unfoldable pub slot_bytes : List ℕ → ℕ → List ℕ
slot_bytes page place = take SLOT_SIZE (drop (SLOT_SIZE * place) page)

-- the slot at a place of a page
abbrev pub slot_in : List ℕ → ℕ → Slot
slot_in page place = slot_of (slot_bytes page place)

-- the content that was read is that of the slot
abbrev pub Says : SlotContent → Slot → Type 0
Says content.Free slot = slot ≡ Free
Says (content.Filled head object) slot = slot ≡ Holds head.collection head.id object.now
Says content.Broken slot = slot ≡ Broken

-- the slot at this place of a page is this one now, and the others are as they were
pub record SetsPlace (place : ℕ) (slot : Slot) (old new : List ℕ) : Type 0 where
  pub here : slot_in new place ≡ slot
  pub others : (other : ℕ) → (other ≡ place → ⊥) → slot_bytes new other ≡ slot_bytes old other
