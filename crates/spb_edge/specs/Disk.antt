-- What an answer of a disk says.
use Rattle.std.specs.Prelude.{◌≡◌, ℕ, ◌+◌, ◌<◌, ◌≤◌, List, ◌++◌, length, take, drop, max, Result, Ok, Err}
use Rattle.spb_edge.specs.declared.disk.DiskError.{DiskError}
use Rattle.spb_edge.specs.declared.disk.DiskError.TheVariants.{Failed, Memory}
use Rattle.spb_edge.specs.Fault.{HasRisen}
use Rattle.spb_edge.specs.Crash.{EqualOutside}

-- a size that is answered is the length
abbrev pub IsSize : Result ℕ DiskError → ℕ → Type 0
IsSize (Ok n) size = n ≡ size
IsSize (Err e) size = Unit {0}

-- the image, overwritten with the bytes from a place on
abbrev pub overwritten_at : List ℕ → ℕ → List ℕ → List ℕ
overwritten_at image at bytes = take at image ++ bytes ++ drop (at + length bytes) image

-- a write overwrites the image with its bytes, and a refused one changes nothing outside of its range
abbrev pub Overwrites : {E : Type 0} → Result Unit E → ℕ → List ℕ → List ℕ → List ℕ → Type 0
Overwrites (Ok _) at bytes old new = new ≡ overwritten_at old at bytes
Overwrites (Err e) at bytes old new = EqualOutside at (at + length bytes) old new

-- a write past the end makes the image longer, and a refused one may have done so in part
abbrev pub Extends : {E : Type 0} → Result Unit E → ℕ → ℕ → ℕ → Type 0
Extends (Ok _) old end new = new ≡ max old end
Extends (Err e) old end new = (old ≤ new) × (new ≤ max old end)

-- a failure is counted, and the count never falls; the call never runs out of memory
abbrev pub CountsFault : {A : Type 0} → Result A DiskError → ℕ → ℕ → Type 0
CountsFault (Ok _) before now = before ≤ now
CountsFault (Err Failed) before now = (before ≤ now) × HasRisen before now
CountsFault (Err Memory) before now = ⊥

-- the same of a write from a size to an end, which runs out of memory only if it grows
abbrev pub CountsWriteFault : Result Unit DiskError → ℕ → ℕ → ℕ → ℕ → Type 0
CountsWriteFault (Ok _) size end before now = before ≤ now
CountsWriteFault (Err Failed) size end before now = (before ≤ now) × HasRisen before now
CountsWriteFault (Err Memory) size end before now = (size < end) × (before ≤ now)
