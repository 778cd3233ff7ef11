-- What an answer of a sink says.
use Rattle.std.specs.Prelude.{◌≡◌, ℕ, ◌<◌, ◌≤◌, List, length, take, Option, Result, Ok, Err}
use Rattle.spb_edge.specs.declared.sink.Put.{Put}
use Rattle.spb_edge.specs.declared.sink.Put.TheVariants.{Took, Failed}
use Rattle.spb_edge.specs.Known.{with_suffix}
use Rattle.spb_edge.specs.Fault.{HasRisen}

-- at least one byte, and no more than the piece has
abbrev pub IsCountWithin : Put → ℕ → Type 0
IsCountWithin (Took n) len = (0 < n) × (n ≤ len)
IsCountWithin Failed len = Unit {0}

-- the bytes taken come after those taken before
abbrev pub AppendsTaken : Put → List ℕ → Option (List ℕ) → Option (List ℕ) → Type 0
AppendsTaken (Took n) piece old new = new ≡ with_suffix old (take n piece)
AppendsTaken Failed piece old new = new ≡ old

-- a failure is counted, and the count never falls
abbrev pub CountsFault : Put → ℕ → ℕ → Type 0
CountsFault (Took n) before now = before ≤ now
CountsFault Failed before now = (before ≤ now) × HasRisen before now

-- all of the bytes were put, or a proper prefix of them
abbrev pub PutsAll : {E : Type 0} → Result Unit E → List ℕ → Option (List ℕ) → Option (List ℕ) → Type 0
PutsAll (Ok _) bytes old new = new ≡ with_suffix old bytes
PutsAll (Err _) bytes old new = (n : ℕ) × (n < length bytes) × (new ≡ with_suffix old (take n bytes))
