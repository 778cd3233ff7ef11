use Rattle.std.proofs.Common.{◌≡◌, ℕ, ◌+◌, length}
use Rattle.metric_laws.specs.Log.{LogExtends}
use Rattle.spb_defs.specs.Choice.{choice_evals}
use Rattle.pivot_choice.specs.Worths.{choice_visits}
use Rattle.pivot_choice.proofs.Choosing.{Choosing}
use Rattle.pivot_choice.proofs.choice.choose_by_worth.Given as goal

-- the choice so far, with what was measured for it
abbrev pub invariant-loop : goal.invariant-loop
invariant-loop g l =
    let kind = g.R.Ruler.kind l.fn.ruler in
    let dist = g.R.Ruler.dist kind in
    (before : ℕ)
    × (before + 1 ≡ l.counter)
    × Choosing dist l.sample before l.worths l.places l.chosen
    × (g.R.Ruler.kind l.ruler ≡ kind)
    × (g.R.Ruler.count l.ruler ≡ g.R.Ruler.count l.fn.ruler + choice_evals (length l.sample) l.counter)
    × LogExtends (g.R.Ruler.log l.fn.ruler) (g.R.Ruler.log l.ruler) (choice_visits dist l.sample l.counter)
