use Rattle.std.proofs.Common.{◌≡◌, ◌*◌, ◌%◌, ◌^◌, ◌<◌, None}
use Rattle.hilbert_curve.specs.StepLaws.{step_found}
use Rattle.hilbert_curve.proofs.hilbert.walked_step.Given as goal

abbrev pub invariant-loop-t : goal.invariant-loop-t
invariant-loop-t g l =
    (l.entry < 2 ^ g.row.N) × (l.turn < g.row.N)
    × (step_found g.row.N l.t l.entry l.turn (l.key % 2 ^ (g.row.N * l.t)) l.found ≡ step_found g.row.N l.b 0 0 l.key None)
