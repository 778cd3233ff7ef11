use Rattle.std.proofs.Common.{◌≡◌}
use Rattle.z_curve.specs.Spacing.{cut_to, most_bits}
use Rattle.z_curve.specs.ZOrder.{gathered}
use Rattle.z_curve.proofs.spacing.gather.Given as goal

abbrev pub invariant-loop-step : goal.invariant-loop-step
invariant-loop-step g l = l.gathered ≡ cut_to g.row.N l.step (gathered g.row.N (most_bits g.row.N) l.key)
