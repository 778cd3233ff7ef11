-- Counts of faults.
use Rattle.std.proofs.Common.{ℕ, ◌≤◌, arith}
use Rattle.spb_edge.specs.Fault.{HasRisen}

-- a count that rose later has risen
pub risen_later : (before between now : ℕ) → before ≤ between → HasRisen between now → HasRisen before now
risen_later before between now no_less rose = omega arith
