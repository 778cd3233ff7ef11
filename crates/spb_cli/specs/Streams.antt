-- What an answer of a stream over std's reader or writer says of the bytes, if those are known.
use Rattle.std.specs.Prelude.{◌≡◌, ℕ, ◌≤◌, List, [], length, take, Option, Result, Ok, Err}
use Rattle.std.specs.Io.KnownBytes.{Keeps, Appends, Consumes, IsAtEnd}
use Rattle.spb_edge.specs.declared.source.Take.{Take}
use Rattle.spb_edge.specs.declared.source.Take.TheVariants.{Got, End, Failed as TakeFailed}
use Rattle.spb_edge.specs.declared.sink.Put.{Put}
use Rattle.spb_edge.specs.declared.sink.Put.TheVariants.{Took, Failed as PutFailed}
use Rattle.spb_edge.specs.Fault.{next_count}

-- the reader gave the bytes got; if the source is at its end so is the reader, and it gave none; if the source failed
-- the reader kept all
abbrev pub ReadsFrom : Take → Option (List ℕ) → Option (List ℕ) → List ℕ → Type 0
ReadsFrom (Got n) old new into = Consumes old new (take n into)
ReadsFrom End old new into = Consumes old new [] × IsAtEnd new
ReadsFrom TakeFailed old new into = Keeps old new

-- a failure is counted once, and nothing else is
abbrev pub CountsTake : Take → ℕ → ℕ → Type 0
CountsTake (Got n) before now = now ≡ before
CountsTake End before now = now ≡ before
CountsTake TakeFailed before now = now ≡ next_count before

-- the writer holds a prefix of the bytes after what it held
abbrev pub AppendsPrefix : Option (List ℕ) → Option (List ℕ) → List ℕ → Type 0
AppendsPrefix old new bytes = (n : ℕ) × (n ≤ length bytes) × Appends old new (take n bytes)

-- that many of the bytes were written, or some prefix of them
abbrev pub WritesPrefix : {E : Type 0} → Result ℕ E → Option (List ℕ) → Option (List ℕ) → List ℕ → Type 0
WritesPrefix (Ok n) old new bytes = Appends old new (take n bytes)
WritesPrefix (Err _) old new bytes = AppendsPrefix old new bytes

-- what was taken of the piece was written, or the sink failed and wrote some prefix of it
abbrev pub WritesTo : Put → Option (List ℕ) → Option (List ℕ) → List ℕ → Type 0
WritesTo (Took n) old new piece = Appends old new (take n piece)
WritesTo PutFailed old new piece = AppendsPrefix old new piece

-- a failure is counted once, and nothing else is
abbrev pub CountsPut : Put → ℕ → ℕ → Type 0
CountsPut (Took n) before now = now ≡ before
CountsPut PutFailed before now = now ≡ next_count before
