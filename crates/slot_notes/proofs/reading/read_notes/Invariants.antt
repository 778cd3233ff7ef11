use Rattle.std.proofs.Common.{◌≡◌, ◌≤◌, IsTrue, length}
use Rattle.page_laws.specs.Calls.{PagesStay}
use Rattle.slot_notes.specs.Notes.{AreNotes, slots_on}
use Rattle.slot_notes.proofs.reading.read_notes.Given as goal

-- the slots of the pages so far are noted, and the pages are as they were
abbrev pub invariant-loop-n : goal.invariant-loop-n
invariant-loop-n g l =
    let P = g.P.Pages in
    record {
      count : length l.notes ≡ slots_on l.profile.cap l.n;
      notes : IsTrue (P.is_known l.fn.pages) → AreNotes l.profile l.keys.pivots.now (P.page_at l.fn.pages) (slots_on l.profile.cap l.n) l.notes;
      stay : PagesStay P.is_known P.has P.in_pool P.page_at P.free P.is_open P.put_pages P.calm l.fn.pages l.pages;
      later : P.faults l.fn.pages ≤ P.faults l.pages;
    }
