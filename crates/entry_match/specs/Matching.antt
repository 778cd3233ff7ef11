-- What entries name in the notes of a store's slots.
use Rattle.std.specs.Prelude.{ℕ, ◌==◌, Bool, false, not, ◌&&◌, ◌||◌, if◌then◌else◌, List, Option, Some, None}
use Rattle.std.specs.List.{slice_get}
use Rattle.bptree_node.specs.declared.rows.Entry.{Entry}
use Rattle.slot_notes.specs.declared.notes.SlotNote.{SlotNote}
use Rattle.slot_notes.specs.declared.notes.SlotNote.TheVariants as note

-- whether a note is that of a slot which holds the entry's id in the collection
abbrev pub is_named : ℕ → Entry → Option SlotNote → Bool
is_named c e None = false
is_named c e (Some note.Free) = false
is_named c e (Some (note.Filled collection id key)) = (collection == c) && (id == e.id)
is_named c e (Some note.Broken) = false

-- whether it is that of an object with the entry's key
abbrev pub is_keyed : Entry → Option SlotNote → Bool
is_keyed e None = false
is_keyed e (Some note.Free) = false
is_keyed e (Some (note.Filled collection id key)) = key == e.key
is_keyed e (Some note.Broken) = false

-- whether the entry matches its slot, in a tree of the collection whose keys are those of the objects or not
abbrev pub is_match : List SlotNote → ℕ → Bool → Entry → Bool
is_match notes c by_key e = is_named c e (slice_get notes e.slot) && (not by_key || is_keyed e (slice_get notes e.slot))

-- the summary of an entry that passes a test
abbrev pub tested_box : {S : Type 0} → (Entry → Option S) → (Entry → Bool) → Entry → Option S
tested_box entry_box test e = if test e then entry_box e else None
