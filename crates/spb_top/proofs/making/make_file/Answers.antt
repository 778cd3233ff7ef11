use Rattle.std.proofs.Common.{◌≡◌, ◌∙◌, length, IsTrue, sym, subst, rules}
use Rattle.spb_edge.specs.Crash.{IsDurable}
use Rattle.spb_top.specs.declared.status.Status.{Status}
use Rattle.spb_top.specs.Written.{made_line}
use Rattle.spb_top.specs.Outside.{outside_of}
use Rattle.spb_top.specs.Causes.{CauseOf, StopsSampling}
use Rattle.spb_top.specs.Files.{IsLineOf}
use Rattle.spb_top.specs.Plans.{asked_plan}
use Rattle.spb_top.proofs.NewStores.{are_kept, stands_new, line_is, asks_and_makes, stops_sampling, unsampled_cause}
use Rattle.spb_top.proofs.Printing.{prints-weaker}
use Rattle.spb_top.proofs.making.make_file.Goals as goal

pub returns-in-Err-read_samples-clause-samples : goal.returns-in-Err-read_samples-clause-samples
returns-in-Err-read_samples-clause-samples g c = λ script told.
    subst (λ (status : Status). StopsSampling status c.args.plan.space script (g.S.Source.left c.read_samples.new.input)) (sym c.into.ensures)
    (stops_sampling c.in-Err-read_samples.e c.args.plan.space script _ (c.in-Err-read_samples.ensures.answer script told))

pub returns-in-Err-read_samples-clause-cause : goal.returns-in-Err-read_samples-clause-cause
returns-in-Err-read_samples-clause-cause g c =
    let o = outside_of g.S.Source g.K.Sink g.D.Disk c.args.input.now c.read_samples.new.input c.args.output.now c.args.output.now c.args.disk.now c.size.new.self in
    subst (λ (status : Status). CauseOf (asked_plan c.args.plan) status o) (sym c.into.ensures)
    (unsampled_cause c.args.plan c.in-Err-read_samples.e o (g.S.Source.left c.read_samples.new.input) (search rules) c.in-Err-read_samples.ensures.cause
    c.in-Err-read_samples.ensures.answer)

pub returns-clause-line : goal.returns-clause-line
returns-clause-line g c =
    let plan = c.args.plan in
    let choice = c.in-Ok-choose_pivots.choice in
    let o = outside_of g.S.Source g.K.Sink g.D.Disk c.args.input.now c.read_samples.new.input c.args.output.now c.make_store.new.output c.args.disk.now c.make_store.new.disk in
    let kept = c.in-Ok-read_samples.samples.items in
    prints-weaker (λ line. line ≡ made_line (length choice.pivots.items) choice.evals) (IsLineOf (asked_plan plan) o) c.make_store.result _ _
    (line_is plan o kept c.as_slice.result.now choice.pivots.items choice.evals
    (are_kept plan.space (g.S.Source.left c.args.input.now) (g.S.Source.left c.read_samples.new.input) kept c.in-Ok-read_samples.ensures.kept
    c.in-Ok-read_samples.ensures.answer)
    c.as_slice.ensures.value c.in-Ok-choose_pivots.ensures.chosen)
    c.make_store.ensures.line

pub returns-clause-input : goal.returns-clause-input
returns-clause-input g c = λ script told.
    let answered = c.in-Ok-read_samples.ensures.answer script told in
    let front = c.read_samples.ensures.input script told in
    record { took = front.0; front = front.1; whole = λ _. answered.2 }

pub returns-clause-any_moment : goal.returns-clause-any_moment
returns-clause-any_moment g c = λ tells crashes only.
    let E = g.D.Disk in
    let choice = c.in-Ok-choose_pivots.choice in
    let kept = c.in-Ok-read_samples.samples.items in
    let o = outside_of g.S.Source g.K.Sink g.D.Disk c.args.input.now c.read_samples.new.input c.args.output.now c.make_store.new.output c.args.disk.now c.make_store.new.disk in
    let start = c.args.disk.now in
    let asked = c.size.new.self in
    let quiet = g.met.D.Disk.quiet_is start asked c.size.ensures.quiet in
    let asked_tells : IsTrue (g.D.Disk.is_known asked) = subst IsTrue (sym c.size.ensures.told.0) tells in
    let asked_crashes : IsTrue (g.D.Disk.knows_crashes asked) = subst IsTrue (sym c.size.ensures.told.1) crashes in
    let still : IsDurable (g.D.Disk.image asked) (g.D.Disk.crash_states asked) =
    λ image left. only image (quiet.no_more image left) ∙ sym (quiet.image_is tells) in
    asks_and_makes E.moment E.crash_states_since c.args.plan start asked c.make_store.new.disk E.is_known E.knows_crashes E.size_of E.image E.crash_states o
    choice.pivots.items quiet (g.met.D.Disk.only_now start) only (sym (g.met.D.Disk.length_is start tells) ∙ search rules)
    (stands_new c.args.plan o.traffic.input kept c.as_slice.result.now choice.pivots.items choice.evals
    (are_kept c.args.plan.space o.traffic.input (g.S.Source.left c.read_samples.new.input) kept c.in-Ok-read_samples.ensures.kept
    c.in-Ok-read_samples.ensures.answer)
    c.as_slice.ensures.value c.in-Ok-choose_pivots.ensures.chosen)
    (c.make_store.ensures.any_moment asked_tells asked_crashes still)
