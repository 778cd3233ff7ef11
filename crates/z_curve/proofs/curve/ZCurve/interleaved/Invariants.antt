use Rattle.std.proofs.Common.{◌≡◌, take}
use Rattle.z_curve.proofs.Interleaving.{interleaved}
use Rattle.z_curve.proofs.curve.ZCurve.interleaved.Given as goal

abbrev pub invariant-loop-coordinate : goal.invariant-loop-coordinate
invariant-loop-coordinate g l = l.key ≡ interleaved g.row.N 32 (take l.coordinate-index l.coordinates)
