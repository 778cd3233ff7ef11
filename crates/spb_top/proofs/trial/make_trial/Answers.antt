use Rattle.std.proofs.Common.{◌⊎◌, length, ap, subst, ◌∙◌}
use Rattle.spb_edge.specs.Crash.{CrashesLeaveOnly}
use Rattle.spb_defs.specs.State.{State}
use Rattle.store_check.specs.Stands.{Stands, IsNoStore}
use Rattle.spb_top.proofs.NewTrials.{trial_is}
use Rattle.spb_top.proofs.trial.make_trial.Goals as goal

pub returns-in-Ok-format-clause-made : goal.returns-in-Ok-format-clause-made
returns-in-Ok-format-clause-made g c = λ known.
    let made = trial_is c.args.seed _ c.trial_plan-plan.result c.profile_of.result c.as_slice.result.now c.as_slice-pivots.result.now
    c.in-Ok-choose_pivots.choice.pivots.items _ c.trial_plan-plan.ensures.is c.profile_of.ensures (c.as_slice.ensures.value ∙ c.in-Ok.ensures.samples)
    (ap length c.as_slice.ensures.value ∙ c.in-Ok.ensures.count) c.as_slice-pivots.ensures.value c.in-Ok-choose_pivots.ensures.chosen in
    subst (Stands (g.D.Disk.image c.format.new.disk)) made (c.in-Ok-format.ensures.formatted known)

pub returns-in-Ok-format-clause-any_moment : goal.returns-in-Ok-format-clause-any_moment
returns-in-Ok-format-clause-any_moment g c = λ known tells durable.
    let made = trial_is c.args.seed _ c.trial_plan-plan.result c.profile_of.result c.as_slice.result.now c.as_slice-pivots.result.now
    c.in-Ok-choose_pivots.choice.pivots.items _ c.trial_plan-plan.ensures.is c.profile_of.ensures (c.as_slice.ensures.value ∙ c.in-Ok.ensures.samples)
    (ap length c.as_slice.ensures.value ∙ c.in-Ok.ensures.count) c.as_slice-pivots.ensures.value c.in-Ok-choose_pivots.ensures.chosen in
    subst (λ (s : State). CrashesLeaveOnly g.D.Disk.moment g.D.Disk.crash_states_since c.args.disk.now c.format.new.disk (λ c'. IsNoStore c' ⊎ Stands c' s)) made
    (c.format.ensures.any_moment known tells durable c.requires.empty)

pub returns-clause-any_moment : goal.returns-clause-any_moment
returns-clause-any_moment g c = λ known tells durable.
    let made = trial_is c.args.seed _ c.trial_plan-plan.result c.profile_of.result c.as_slice.result.now c.as_slice-pivots.result.now
    c.in-Ok-choose_pivots.choice.pivots.items _ c.trial_plan-plan.ensures.is c.profile_of.ensures (c.as_slice.ensures.value ∙ c.in-Ok.ensures.samples)
    (ap length c.as_slice.ensures.value ∙ c.in-Ok.ensures.count) c.as_slice-pivots.ensures.value c.in-Ok-choose_pivots.ensures.chosen in
    subst (λ (s : State). CrashesLeaveOnly g.D.Disk.moment g.D.Disk.crash_states_since c.args.disk.now c.format.new.disk (λ c'. IsNoStore c' ⊎ Stands c' s)) made
    (c.format.ensures.any_moment known tells durable c.requires.empty)
