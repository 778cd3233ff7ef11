use Rattle.std.proofs.Common.{sym, ap, subst, ◌∙◌}
use Rattle.std.specs.Option.{option_copied}
use Rattle.spb_defs.specs.declared.Reply.TheVariants.{Object}
use Rattle.metrics_builtin.specs.Space.{IsValid}
use Rattle.row_table.specs.Tables.{row_with}
use Rattle.session.proofs.Sound.{at_place, got, got_nothing, got_valid}
use Rattle.session.proofs.store.Store.get.Goals as goal

pub returns-in_ok-of-in-Some-clause-reply : goal.returns-in_ok-of-in-Some-clause-reply
returns-in_ok-of-in-Some-clause-reply c =
    let there = ap (row_with c.args.id) (sym (at_place c.args.self.now c.requires.sound c.args.c c.requires.collection c.index-self-c.result))
    ∙ sym c.find.ensures ∙ ap option_copied c.in-Some.is in
    ap Object (c.in_ok-of-in-Some.ensures ∙ c.as_slice.ensures)
    ∙ sym (got c.args.self.now c.requires.sound c.args.c c.requires.collection c.args.id c.in-Some.row.now there)

pub returns-in_ok-of-in-Some-clause-object : goal.returns-in_ok-of-in-Some-clause-object
returns-in_ok-of-in-Some-clause-object c =
    let there = ap (row_with c.args.id) (sym (at_place c.args.self.now c.requires.sound c.args.c c.requires.collection c.index-self-c.result))
    ∙ sym c.find.ensures ∙ ap option_copied c.in-Some.is in
    subst (IsValid c.args.self.now.space) (sym (c.in_ok-of-in-Some.ensures ∙ c.as_slice.ensures))
    (got_valid c.args.self.now c.requires.sound c.args.c c.requires.collection c.args.id c.in-Some.row.now there)

pub returns-in-None-clause-reply : goal.returns-in-None-clause-reply
returns-in-None-clause-reply c =
    let none = ap (row_with c.args.id) (sym (at_place c.args.self.now c.requires.sound c.args.c c.requires.collection c.index-self-c.result))
    ∙ sym c.find.ensures ∙ ap option_copied c.in-None.is in
    sym (got_nothing c.args.self.now c.requires.sound c.args.c c.requires.collection c.args.id none)
