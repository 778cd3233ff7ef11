-- What the answer of a step says.
use Rattle.std.specs.Prelude.{◌≡◌, ℕ, ◌<◌, ◌≤◌, Result, Ok, Err}
use Rattle.spb_edge.specs.Fault.{HasRisen}
use Rattle.redo_journal.specs.declared.errors.GrowError.{GrowError}
use Rattle.redo_journal.specs.declared.errors.GrowError.TheVariants as grow
use Rattle.store_format.specs.declared.errors.FormatError.{FormatError}
use Rattle.store_format.specs.declared.errors.FormatError.TheVariants.{NotEmpty, DiskFault, Memory}

-- the error of a write is handed on
abbrev pub IsSameError : GrowError → FormatError → Type 0
IsSameError grow.DiskFault e = e ≡ DiskFault
IsSameError grow.Memory e = e ≡ Memory

-- a fault is counted, and the count never falls
abbrev pub CountsFormatFault : Result Unit FormatError → ℕ → ℕ → Type 0
CountsFormatFault (Ok _) before now = before ≤ now
CountsFormatFault (Err NotEmpty) before now = before ≤ now
CountsFormatFault (Err DiskFault) before now = (before ≤ now) × HasRisen before now
CountsFormatFault (Err Memory) before now = before ≤ now

-- the disk is found not to be empty exactly if its size isn't 0, unless it failed
abbrev pub TestsSize : Result Unit FormatError → ℕ → Type 0
TestsSize (Ok _) size = size ≡ 0
TestsSize (Err NotEmpty) size = 0 < size
TestsSize (Err DiskFault) size = Unit {0}
TestsSize (Err Memory) size = size ≡ 0

-- a step that was begun never finds the disk not to be empty
abbrev pub IsBegun : Result Unit FormatError → Type 0
IsBegun (Ok _) = Unit {0}
IsBegun (Err NotEmpty) = ⊥
IsBegun (Err DiskFault) = Unit {0}
IsBegun (Err Memory) = Unit {0}
