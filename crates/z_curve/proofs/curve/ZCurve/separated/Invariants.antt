use Rattle.std.proofs.Common.{◌≡◌, ℕ, ◌<◌, ◌-◌, ◌/◌, ◌^◌, length, get_or}
use Rattle.z_curve.specs.Spacing.{most_bits}
use Rattle.z_curve.specs.ZOrder.{gathered}
use Rattle.z_curve.proofs.curve.ZCurve.separated.Given as goal

abbrev pub invariant-loop-place : goal.invariant-loop-place
invariant-loop-place g l =
    (length l.coordinate-items ≡ g.row.N)
    × ((k : ℕ) → k < l.place → get_or l.coordinate-items k 0 ≡ gathered g.row.N (most_bits g.row.N) (l.key / 2 ^ (g.row.N - 1 - k)))
