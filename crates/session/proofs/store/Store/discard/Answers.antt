use Rattle.std.proofs.Common.{List, IsPermutation, sym, ap, subst, ◌∙◌}
use Rattle.std.specs.Prelude.{is_some}
use Rattle.pivot_map.specs.declared.row.Row.{Row}
use Rattle.row_table.specs.Tables.{row_with, rows_without}
use Rattle.session.specs.Store.{state_of}
use Rattle.session.proofs.Sound.{at_place, same_store, not_there, dropped, dropped_nothing, cut_state, cut_sound}
use Rattle.session.proofs.store.Store.discard.Goals as goal

pub returns-then-remove-clause-reply : goal.returns-then-remove-clause-reply
returns-then-remove-clause-reply c =
    let at = at_place c.args.self.now c.requires.sound c.args.c c.requires.collection c.index-self-c.result in
    sym (dropped c.args.self.now c.requires.sound c.args.c c.requires.collection c.args.id (ap (λ rows. is_some (row_with c.args.id rows)) (sym at)
    ∙ sym c.remove.ensures.found ∙ c.if-remove.true)).0

pub returns-then-remove-clause-next : goal.returns-then-remove-clause-next
returns-then-remove-clause-next c =
    let at = at_place c.args.self.now c.requires.sound c.args.c c.requires.collection c.index-self-c.result in
    cut_state c.args.self.now c.requires.sound c.args.c c.requires.collection c.args.id c.remove.new.self
    (subst (λ (rows : List Row). IsPermutation (rows_without c.args.id rows) c.remove.new.self) at c.remove.ensures.others)
    ∙ sym (dropped c.args.self.now c.requires.sound c.args.c c.requires.collection c.args.id (ap (λ rows. is_some (row_with c.args.id rows)) (sym at)
    ∙ sym c.remove.ensures.found ∙ c.if-remove.true)).1

pub returns-then-remove-clause-sound : goal.returns-then-remove-clause-sound
returns-then-remove-clause-sound c =
    let at = at_place c.args.self.now c.requires.sound c.args.c c.requires.collection c.index-self-c.result in
    cut_sound c.args.self.now c.requires.sound c.args.c c.requires.collection c.args.id c.remove.new.self
    (subst (λ (rows : List Row). IsPermutation (rows_without c.args.id rows) c.remove.new.self) at c.remove.ensures.others) c.requires.closed

pub returns-else-remove-clause-reply : goal.returns-else-remove-clause-reply
returns-else-remove-clause-reply c =
    let at = at_place c.args.self.now c.requires.sound c.args.c c.requires.collection c.index-self-c.result in
    sym (dropped_nothing c.args.self.now c.requires.sound c.args.c c.requires.collection c.args.id (ap (λ rows. is_some (row_with c.args.id rows)) (sym at)
    ∙ sym c.remove.ensures.found ∙ c.if-remove.false)).0

pub returns-else-remove-clause-next : goal.returns-else-remove-clause-next
returns-else-remove-clause-next c =
    let at = at_place c.args.self.now c.requires.sound c.args.c c.requires.collection c.index-self-c.result in
    ap state_of (same_store c.args.self.now c.requires.sound c.args.c c.requires.collection c.index-self-c.result c.remove.new.self
    (c.remove.ensures.absent (not_there _ (sym c.remove.ensures.found ∙ c.if-remove.false))))
    ∙ sym (dropped_nothing c.args.self.now c.requires.sound c.args.c c.requires.collection c.args.id (ap (λ rows. is_some (row_with c.args.id rows)) (sym at)
    ∙ sym c.remove.ensures.found ∙ c.if-remove.false)).1

pub returns-else-remove-clause-sound : goal.returns-else-remove-clause-sound
returns-else-remove-clause-sound c =
    let at = at_place c.args.self.now c.requires.sound c.args.c c.requires.collection c.index-self-c.result in
    cut_sound c.args.self.now c.requires.sound c.args.c c.requires.collection c.args.id c.remove.new.self
    (subst (λ (rows : List Row). IsPermutation (rows_without c.args.id rows) c.remove.new.self) at c.remove.ensures.others) c.requires.closed
