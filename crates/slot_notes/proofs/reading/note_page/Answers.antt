use Rattle.std.proofs.Common.{rules, ◌≡◌, ◌+◌, ◌*◌, ◌<◌, ◌≤◌, [], ◌∷◌, ◌++◌, length, sym, ap, subst, ◌∙◌, arith}
use Rattle.std.specs.Prelude.{min}
use Rattle.std.proofs.lemmas.List.{length_push}
use Rattle.slot_notes.specs.Notes.{AreNotes, slots_on}
use Rattle.slot_notes.proofs.Noting.{NotesOn, on-starts, on-more, whole-pages, next-page}
use Rattle.slot_notes.proofs.reading.note_page.Goals as goal

pub loop-slot-init : goal.loop-slot-init
loop-slot-init g c =
    let first : 4 * c.args.n ≡ slots_on c.args.profile.now.cap c.args.n = sym (whole-pages c.args.profile.now.cap c.args.n c.requires.page) in
    record {
      count = c.requires.count ∙ sym first;
      notes = on-starts c.args.profile.now c.args.keys.now.pivots.now c.args.n c.args.page.now c.args.notes.now (4 * c.args.n) first;
    }

pub loop-slot-preserved : goal.loop-slot-preserved
loop-slot-preserved g c =
    let least : 4 * c.args.n ≤ c.loop-slot.slot = search rules in
    let end : c.loop-slot.slot < min c.args.profile.now.cap (4 * c.args.n + 4) = search rules in
    let new : c.push.new.self ≡ c.loop-slot.notes ++ c.note_of.result ∷ [] = search rules in
    record {
      count = ap length new ∙ length_push c.loop-slot.notes c.note_of.result ∙ ap (λ k. k + 1) c.loop-slot.invariant.count;
      notes = subst (NotesOn c.args.profile.now c.args.keys.now.pivots.now c.args.n c.args.page.now c.args.notes.now (c.loop-slot.slot + 1)) (sym new)
          (on-more c.args.profile.now c.args.keys.now.pivots.now c.args.n c.args.page.now c.args.notes.now c.loop-slot.slot c.loop-slot.notes c.note_of.result
          c.loop-slot.invariant.notes least (omega (arith, end)) c.note_of.ensures.note);
    }

pub returns-clause-notes : goal.returns-clause-notes
returns-clause-notes g c = λ home at are.
    let end : c.loop-slot.slot ≡ min c.args.profile.now.cap (4 * c.args.n + 4) = search rules in
    subst (λ k. AreNotes c.args.profile.now c.args.keys.now.pivots.now home k c.loop-slot.notes) (next-page c.args.profile.now.cap c.args.n c.loop-slot.slot end)
    (c.loop-slot.invariant.notes home at are)

pub returns-clause-count : goal.returns-clause-count
returns-clause-count g c =
    let end : c.loop-slot.slot ≡ min c.args.profile.now.cap (4 * c.args.n + 4) = search rules in
    c.loop-slot.invariant.count ∙ next-page c.args.profile.now.cap c.args.n c.loop-slot.slot end
