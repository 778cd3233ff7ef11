use Rattle.std.proofs.Common.{◌≡◌, All, length, subst, sym, ap, ◌∙◌, arith}
use Rattle.metrics_builtin.specs.Vectors.{IsVector}
use Rattle.trial_script.proofs.Drawing.{draw_state-start, samples-more, trial_samples-all, trial_samples-count, trial_samples-IsValid}
use Rattle.trial_script.proofs.samples.trial_samples.Goals as goal

pub loop-init : goal.loop-init
loop-init c = record { state = draw_state-start c.args.seed; samples = c.new-samples.ensures.items }

pub loop-preserved : goal.loop-preserved
loop-preserved c =
    let kept = c.loop.invariant in
    let more = samples-more c.args.seed c.loop.counter c.loop.draws.state c.object.new.self.state c.loop.samples.items c.in_ok-object.field-0
    kept.state kept.samples c.in_ok-object.ensures.object c.in_ok-object.ensures.state in
    record { state = more.0; samples = c.in_ok-push.ensures.items ∙ more.1 }

pub returns-clause-samples : goal.returns-clause-samples
returns-clause-samples c =
    let all : c.loop.counter ≡ 16 = let end = c.loop-test.false in let few = c.loop.auto.counter-end in omega (arith, end, few) in
    trial_samples-all c.args.seed c.loop.counter c.loop.samples.items c.loop.invariant.samples all

pub returns-clause-count : goal.returns-clause-count
returns-clause-count c = ap length (returns-clause-samples c) ∙ trial_samples-count c.args.seed

pub returns-clause-valid : goal.returns-clause-valid
returns-clause-valid c = subst (All (IsVector 4 1000)) (sym (returns-clause-samples c)) (trial_samples-IsValid c.args.seed)
