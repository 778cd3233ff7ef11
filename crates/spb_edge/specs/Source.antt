-- What an answer of a source says.
use Rattle.std.specs.Prelude.{◌≡◌, ℕ, ◌<◌, ◌≤◌, List, [], take, Option, IfSome}
use Rattle.spb_edge.specs.declared.source.Take.{Take}
use Rattle.spb_edge.specs.declared.source.Take.TheVariants.{Got, End, Failed}
use Rattle.spb_edge.specs.Known.{with_prefix}
use Rattle.spb_edge.specs.Fault.{HasRisen}

-- at least one byte, and no more than the buffer holds
abbrev pub IsCountWithin : Take → ℕ → Type 0
IsCountWithin (Got n) len = (0 < n) × (n ≤ len)
IsCountWithin End len = Unit {0}
IsCountWithin Failed len = Unit {0}

-- the bytes got are the first of what was left; the end comes only if nothing is left
abbrev pub GivesBytes : Take → List ℕ → Option (List ℕ) → Option (List ℕ) → Type 0
GivesBytes (Got n) into old new = old ≡ with_prefix (take n into) new
GivesBytes End into old new = (new ≡ old) × IfSome old (λ bytes. bytes ≡ [])
GivesBytes Failed into old new = new ≡ old

-- a failure is counted, and the count never falls
abbrev pub CountsFault : Take → ℕ → ℕ → Type 0
CountsFault (Got n) before now = before ≤ now
CountsFault End before now = before ≤ now
CountsFault Failed before now = (before ≤ now) × HasRisen before now
