use Rattle.std.proofs.Common.{◌≡◌, ℕ, ◌*◌, ◌/◌, ◌%◌, ◌^◌, ◌<◌, length, get_or}
use Rattle.hilbert_curve.proofs.lanes.unpacked.Given as goal

abbrev pub invariant-loop-j : goal.invariant-loop-j
invariant-loop-j g l =
    (length l.x-items ≡ g.row.N) × ((k : ℕ) → k < l.j → get_or l.x-items k 0 ≡ l.packed / 2 ^ (64 / g.row.N * k) % 2 ^ l.b)
