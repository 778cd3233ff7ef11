use Rattle.std.proofs.Common.{◌≡◌, ℕ, List, length, ap, ◌∙◌}
use Rattle.std.specs.Prelude.{min}
use Rattle.spb_defs.specs.Choice.{chosen_samples}
use Rattle.session.proofs.Sound.{closed_by}
use Rattle.session.proofs.store.Store.close.Goals as goal

pub returns-clause-closed : goal.returns-clause-closed
returns-clause-closed g c =
    let store = c.args.self.now in
    let chosen : c.in_ok-choice.choice.pivots.items
    ≡ chosen_samples (g.M.Metric.dist c.args.metric.now) store.samples.items (min store.wanted (length store.samples.items)) =
    c.in_ok-choice.ensures.pivots
    ∙ ap (λ samples. chosen_samples (g.M.Metric.dist c.args.metric.now) samples (min store.wanted (length samples))) c.as_slice-samples.ensures.value in
    closed_by store c.in_ok-choice.choice.pivots.items c.if-not-self.false
    (chosen ∙ ap (λ (f : List ℕ → List ℕ → ℕ). chosen_samples f store.samples.items (min store.wanted (length store.samples.items)))
    c.requires.metric.distance_is)
