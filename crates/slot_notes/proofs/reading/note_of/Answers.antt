use Rattle.std.proofs.Common.{rules}
use Rattle.slot_notes.proofs.reading.note_of.Goals as goal
use Rattle.tree_state.proofs.Members.{collection_is}
use Rattle.object_file.specs.Slots.{slot_bytes}

pub filled_note-requires-clause-collection : goal.filled_note-requires-clause-collection
filled_note-requires-clause-collection g c =
    collection_is (slot_bytes c.args.page.now c.args.place) c.in-Filled.head.collection c.in-Filled.head.id c.in-Filled.object.now (search rules)
