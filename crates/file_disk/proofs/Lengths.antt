-- The length through what is answered for a call on the file.
use Rattle.std.proofs.Common.{ℕ, Option, None, Some, Result, Ok, Err, IsErr, refl, sym, subst}
use Rattle.std.proofs.lemmas.Bool.{false≢true}
use Rattle.spb_edge.specs.declared.disk.DiskError.{DiskError}
use Rattle.file_disk.specs.Calls.{AnswersOutcome, AnswersLength}

-- the disk answers the length that was found, and fails if none was
pub answers_found : {F E : Type 0} (file : Option F) (size : ℕ) (found : Result ℕ E) (result : Result ℕ DiskError)
    → AnswersLength file size found → AnswersOutcome found result → AnswersLength file size result
answers_found (Some _) size found result is outcome = subst (λ r. AnswersOutcome r result) is outcome
answers_found None size (Err _) result is outcome = subst IsErr (sym outcome) refl
answers_found None size (Ok _) result is outcome = absurd (false≢true is)
