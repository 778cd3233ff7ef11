use Rattle.std.proofs.Common.{◌≡◌, IsTrue, length, rules, sym, subst, ◌∙◌}
use Rattle.spb_top.specs.Outside.{unread_outside}
use Rattle.spb_top.proofs.NewTrials.{asked_and_run}
use Rattle.spb_top.proofs.trial.try_file.Goals as goal

pub returns-in-Ok-make_and_run-clause-any_moment : goal.returns-in-Ok-make_and_run-clause-any_moment
returns-in-Ok-make_and_run-clause-any_moment g c = λ known tells durable.
    let E = g.D.Disk in
    let met = g.met.D.Disk in
    let old = c.args.disk.now in
    let asked = c.size.new.self in
    let known' : IsTrue (E.is_known asked) = subst IsTrue (sym c.size.ensures.told.0) known in
    let tells' : IsTrue (E.knows_crashes asked) = subst IsTrue (sym c.size.ensures.told.1) tells in
    let none : length (E.image old) ≡ 0 = sym (met.length_is old known) ∙ search rules in
    asked_and_run E c.args.seed c.args.count (unread_outside g.K.Sink E c.args.output.now c.print_totals.new.output old c.make_and_run.new.disk) old asked
    c.make_and_run.new.disk (met.quiet_is old asked c.size.ensures.quiet) (met.only_now old) durable none (c.make_and_run.ensures.any_moment known' tells') known

pub returns-in-Err-make_and_run-clause-any_moment : goal.returns-in-Err-make_and_run-clause-any_moment
returns-in-Err-make_and_run-clause-any_moment g c = λ known tells durable.
    let E = g.D.Disk in
    let met = g.met.D.Disk in
    let old = c.args.disk.now in
    let asked = c.size.new.self in
    let known' : IsTrue (E.is_known asked) = subst IsTrue (sym c.size.ensures.told.0) known in
    let tells' : IsTrue (E.knows_crashes asked) = subst IsTrue (sym c.size.ensures.told.1) tells in
    let none : length (E.image old) ≡ 0 = sym (met.length_is old known) ∙ search rules in
    asked_and_run E c.args.seed c.args.count (unread_outside g.K.Sink E c.args.output.now c.args.output.now old c.make_and_run.new.disk) old asked
    c.make_and_run.new.disk (met.quiet_is old asked c.size.ensures.quiet) (met.only_now old) durable none (c.make_and_run.ensures.any_moment known' tells') known
