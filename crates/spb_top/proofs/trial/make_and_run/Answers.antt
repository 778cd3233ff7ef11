use Rattle.std.proofs.Common.{sym, subst, IsTrue, arith}
use Rattle.trial_script.specs.Script.{trial_state}
use Rattle.spb_top.proofs.NewTrials.{leaves_made, leaves_run}
use Rattle.spb_top.proofs.trial.make_and_run.Goals as goal

pub returns-in_err-make_trial-clause-any_moment : goal.returns-in_err-make_trial-clause-any_moment
returns-in_err-make_trial-clause-any_moment g c = λ known tells durable.
    let few = c.requires.few in
    leaves_made c.args.seed c.args.count (c.lines_are_commands.ensures.script c.args.seed c.args.count (omega (arith, few))) g.D.Disk c.args.disk.now
    c.make_trial.new.disk (c.make_trial.ensures.any_moment known tells durable)

pub returns-clause-any_moment : goal.returns-clause-any_moment
returns-clause-any_moment g c = λ known tells durable.
    let few = c.requires.few in
    let made = c.in_ok-make_trial.ensures in
    let known' : IsTrue (g.D.Disk.is_known c.make_trial.new.disk) = subst IsTrue (sym made.told.0) known in
    let tells' : IsTrue (g.D.Disk.knows_crashes c.make_trial.new.disk) = subst IsTrue (sym made.told.1) tells in
    let stood = made.made known in
    leaves_run c.args.seed c.args.count (c.lines_are_commands.ensures.script c.args.seed c.args.count (omega (arith, few))) g.D.Disk c.args.disk.now
    c.make_trial.new.disk c.run_trial.new.disk stood (made.any_moment known tells durable)
    (c.run_trial.ensures.any_moment known' tells' (made.durable known tells) (trial_state c.args.seed) stood)
