use Rattle.std.proofs.Common.{length, ap, ◌∙◌, sym}
use Rattle.redo_journal.proofs.Pairs.{length-page_entries, is_sound}
use Rattle.redo_journal.proofs.staged.Staged.count.Goals as goal

pub returns-clause-count : goal.returns-clause-count
returns-clause-count c = c.len.ensures.value ∙ sym (length-page_entries 512 _ _) ∙ ap (λ s. length s.pages) c.self.view_is

pub returns-clause-sound : goal.returns-clause-sound
returns-clause-sound c = is_sound _ _ _ _ _ c.self.invariant c.self.view_is
