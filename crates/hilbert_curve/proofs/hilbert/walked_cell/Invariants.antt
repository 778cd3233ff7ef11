use Rattle.std.proofs.Common.{◌≡◌, ◌+◌, ◌*◌, ◌%◌, ◌^◌, ◌<◌}
use Rattle.hilbert_curve.proofs.Walking.{cell_lanes}
use Rattle.hilbert_curve.proofs.hilbert.walked_cell.Given as goal

abbrev pub invariant-loop-t : goal.invariant-loop-t
invariant-loop-t g l =
    (l.entry < 2 ^ g.row.N) × (l.turn < g.row.N)
    × (l.all * 2 ^ l.t + cell_lanes g.row.N l.t l.entry l.turn (l.key % 2 ^ (g.row.N * l.t)) ≡ cell_lanes g.row.N l.b 0 0 l.key)
