use Rattle.std.proofs.Common.{◌≡◌, length}
use Rattle.slot_notes.proofs.Noting.{NotesOn}
use Rattle.slot_notes.proofs.reading.note_page.Given as goal

-- the slots so far are noted
abbrev pub invariant-loop-slot : goal.invariant-loop-slot
invariant-loop-slot g l = record {
  count : length l.notes ≡ l.slot;
  notes : NotesOn l.profile l.keys.pivots.now l.n l.page l.fn.notes l.slot l.notes;
}
