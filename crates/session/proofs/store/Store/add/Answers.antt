use Rattle.std.proofs.Common.{sym, ap, ◌∙◌, arith}
use Rattle.std.specs.Prelude.{is_some}
use Rattle.row_table.specs.Tables.{row_with}
use Rattle.session.proofs.Sound.{at_place, added_existing, added_full, added_new}
use Rattle.session.proofs.store.Store.add.Goals as goal

pub returns-then-has-clause-reply : goal.returns-then-has-clause-reply
returns-then-has-clause-reply g c =
    sym (added_existing c.args.self.now c.requires.sound c.args.c c.requires.collection c.args.id c.args.object
    (ap (λ rows. is_some (row_with c.args.id rows)) (sym (at_place c.args.self.now c.requires.sound c.args.c c.requires.collection c.index-self-c.result))
    ∙ sym c.has.ensures ∙ c.if-has.true)).0

pub returns-then-has-clause-next : goal.returns-then-has-clause-next
returns-then-has-clause-next g c =
    sym (added_existing c.args.self.now c.requires.sound c.args.c c.requires.collection c.args.id c.args.object
    (ap (λ rows. is_some (row_with c.args.id rows)) (sym (at_place c.args.self.now c.requires.sound c.args.c c.requires.collection c.index-self-c.result))
    ∙ sym c.has.ensures ∙ c.if-has.true)).1

pub returns-then-len-ge-MEMORY_CAP-clause-reply : goal.returns-then-len-ge-MEMORY_CAP-clause-reply
returns-then-len-ge-MEMORY_CAP-clause-reply g c =
    sym (added_full c.args.self.now c.requires.sound c.args.c c.requires.collection c.args.id c.args.object
    (ap (λ rows. is_some (row_with c.args.id rows)) (sym (at_place c.args.self.now c.requires.sound c.args.c c.requires.collection c.index-self-c.result))
    ∙ sym c.has.ensures ∙ c.if-has.false) (omega (arith, c.len.ensures))).0

pub returns-then-len-ge-MEMORY_CAP-clause-next : goal.returns-then-len-ge-MEMORY_CAP-clause-next
returns-then-len-ge-MEMORY_CAP-clause-next g c =
    sym (added_full c.args.self.now c.requires.sound c.args.c c.requires.collection c.args.id c.args.object
    (ap (λ rows. is_some (row_with c.args.id rows)) (sym (at_place c.args.self.now c.requires.sound c.args.c c.requires.collection c.index-self-c.result))
    ∙ sym c.has.ensures ∙ c.if-has.false) (omega (arith, c.len.ensures))).1

pub returns-clause-reply : goal.returns-clause-reply
returns-clause-reply g c =
    sym (added_new c.args.self.now c.requires.sound c.args.c c.requires.collection c.args.id c.args.object
    (ap (λ rows. is_some (row_with c.args.id rows)) (sym (at_place c.args.self.now c.requires.sound c.args.c c.requires.collection c.index-self-c.result))
    ∙ sym c.has.ensures ∙ c.if-has.false) (omega (arith, c.len.ensures))).0

pub returns-clause-next : goal.returns-clause-next
returns-clause-next g c =
    c.in_ok-put.ensures.members
    ∙ sym (added_new c.args.self.now c.requires.sound c.args.c c.requires.collection c.args.id c.args.object
    (ap (λ rows. is_some (row_with c.args.id rows)) (sym (at_place c.args.self.now c.requires.sound c.args.c c.requires.collection c.index-self-c.result))
    ∙ sym c.has.ensures ∙ c.if-has.false) (omega (arith, c.len.ensures))).1
