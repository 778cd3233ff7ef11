use Rattle.std.proofs.Common.{ℕ, ◌≤◌, refl, arith}
use Rattle.metrics_builtin.specs.Space.{dist, IsValid}
use Rattle.spb_defs.specs.declared.CurveKind.TheVariants.{Z}
use Rattle.spb_defs.specs.Choice.{chosen_samples}
use Rattle.spb_defs.specs.ChoiceLaws.{length-chosen_samples, All-chosen_samples}
use Rattle.trial_script.specs.Script.{trial_space, trial_samples, trial_state, trial_lines}
use Rattle.trial_script.specs.Totals.{replies_of}
use Rattle.trial_script.proofs.Drawing.{trial_samples-count, trial_samples-IsValid}
use Rattle.trial_script.proofs.Places.{length-trial_lines}
use Rattle.trial_script.proofs.Bounds.{replies-small, length-replies, totals-capped}
use Rattle.trial_script.proofs.laws.totals_fit.Goals as goal

pub returns-clause-begins : goal.returns-clause-begins
unfolding trial_state
returns-clause-begins c = λ seed.
    let samples = trial_samples seed in
    let many = length-chosen_samples (dist trial_space) samples 4 in
    let enough = trial_samples-count seed in
    c.states_are_kept.ensures.in_file trial_space Z (chosen_samples (dist trial_space) samples 4) 65536 refl
    (All-chosen_samples (IsValid trial_space) (dist trial_space) samples 4 (omega (arith, enough)) (trial_samples-IsValid seed))
    (omega (arith, many))

room : (seed : ℕ) → (trial_state seed).cap ≤ 65536
unfolding trial_state
room seed = omega arith

pub returns-clause-totals : goal.returns-clause-totals
returns-clause-totals c = λ seed count few.
    let first = trial_state seed in
    let lines = trial_lines seed count in
    let same = length-replies first lines in
    let many = length-trial_lines seed count in
    totals-capped (replies_of first lines) (omega (arith, same, many, few))
    (replies-small c.states_are_kept.ensures.next first lines (returns-clause-begins c seed) (room seed))
