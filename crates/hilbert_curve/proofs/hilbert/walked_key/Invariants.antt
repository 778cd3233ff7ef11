use Rattle.std.proofs.Common.{◌≡◌, ◌+◌, ◌*◌, ◌^◌, ◌<◌}
use Rattle.hilbert_curve.proofs.Walking.{key_left}
use Rattle.hilbert_curve.proofs.hilbert.walked_key.Given as goal

abbrev pub invariant-loop-t : goal.invariant-loop-t
invariant-loop-t g l =
    (l.entry < 2 ^ g.row.N) × (l.turn < g.row.N)
    × (l.key * 2 ^ (g.row.N * l.t) + key_left g.row.N l.fn.coordinates l.t l.entry l.turn ≡ key_left g.row.N l.fn.coordinates l.b 0 0)
