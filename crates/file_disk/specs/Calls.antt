-- What a disk over a file answers, and what it keeps.
use Rattle.std.specs.Prelude.{◌≡◌, ℕ, max, Option, None, Some, Result, Ok, Err, IsErr}
use Rattle.spb_edge.specs.declared.disk.DiskError.{DiskError}
use Rattle.spb_edge.specs.declared.disk.DiskError.TheVariants.{Failed, Memory}
use Rattle.spb_edge.specs.Fault.{next_count}

-- a failure is counted once, and nothing else is; the call never runs out of memory
abbrev pub CountsCall : {A : Type 0} → Result A DiskError → ℕ → ℕ → Type 0
CountsCall (Ok _) before now = now ≡ before
CountsCall (Err Failed) before now = now ≡ next_count before
CountsCall (Err Memory) before now = ⊥

-- the outcome of a call on the file, with any error as a failure of the disk
abbrev pub AnswersOutcome : {A E : Type 0} → Result A E → Result A DiskError → Type 0
AnswersOutcome (Ok value) result = result ≡ Ok value
AnswersOutcome (Err _) result = result ≡ Err Failed

-- the kept length if there is a file, and an error if there is none
abbrev pub AnswersLength : {F E : Type 0} → Option F → ℕ → Result ℕ E → Type 0
AnswersLength (Some _) size result = result ≡ Ok size
AnswersLength None size result = IsErr result

-- a write makes the disk longer only if it succeeds
abbrev pub ExtendsIfOk : {E : Type 0} → Result Unit E → ℕ → ℕ → ℕ → Type 0
ExtendsIfOk (Ok _) old end new = new ≡ max old end
ExtendsIfOk (Err _) old end new = new ≡ old
