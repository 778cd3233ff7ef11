use Rattle.std.proofs.Common.{◌≡◌, length, drop, take, ◌++◌, ap, ◌∙◌, sym, arith}
use Rattle.std.proofs.lemmas.List.{take-append-drop, length-drop}
use Rattle.redo_journal.specs.Change.{joined_images}
use Rattle.redo_journal.proofs.Pairs.{joined-page_entries, length-page_entries, is_sound}
use Rattle.redo_journal.proofs.staged.Staged.body.Goals as goal

pub returns-clause-bytes : goal.returns-clause-bytes
returns-clause-bytes c =
    let body = c.self.inside.body.items in
    let long = c.self.invariant.long in
    c.deref.ensures.value
    ∙ sym (take-append-drop 512 body) ∙ ap (λ xs. take 512 body ++ xs)
    (sym (joined-page_entries c.self.inside.numbers.items (drop 512 body) (length-drop 512 body ∙ omega (arith, long))))
    ∙ ap (λ s. s.header ++ joined_images s.pages) c.self.view_is

pub returns-clause-long : goal.returns-clause-long
returns-clause-long c =
    let count : length c.args.self.now.pages ≡ length c.self.inside.numbers.items =
    sym (ap (λ s. length s.pages) c.self.view_is) ∙ length-page_entries 512 c.self.inside.numbers.items (drop 512 c.self.inside.body.items) in
    ap length c.deref.ensures.value ∙ omega (arith, c.self.invariant.long, count)

pub returns-clause-sound : goal.returns-clause-sound
returns-clause-sound c = is_sound _ _ _ _ _ c.self.invariant c.self.view_is
