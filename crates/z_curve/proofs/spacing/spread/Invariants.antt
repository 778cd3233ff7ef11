use Rattle.std.proofs.Common.{◌≡◌}
use Rattle.z_curve.specs.Spacing.{cut_to}
use Rattle.z_curve.proofs.spacing.spread.Given as goal

abbrev pub invariant-loop-step : goal.invariant-loop-step
invariant-loop-step g l = l.spread ≡ cut_to g.row.N l.step l.number
