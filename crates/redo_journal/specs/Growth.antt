-- What the answer of a write says that may make a disk longer.
use Rattle.std.specs.Prelude.{ℕ, ◌<◌, ◌≤◌, Result, Ok, Err}
use Rattle.spb_edge.specs.Fault.{HasRisen}
use Rattle.redo_journal.specs.declared.errors.GrowError.{GrowError}
use Rattle.redo_journal.specs.declared.errors.GrowError.TheVariants as grow

-- a fault is counted, memory runs out only for growth, and the count never falls
abbrev pub CountsGrowFault : Result Unit GrowError → ℕ → ℕ → ℕ → ℕ → Type 0
CountsGrowFault (Ok _) size end before now = before ≤ now
CountsGrowFault (Err grow.DiskFault) size end before now = (before ≤ now) × HasRisen before now
CountsGrowFault (Err grow.Memory) size end before now = (size < end) × (before ≤ now)
