-- The magic that was read, and faults that were counted.
use Rattle.std.proofs.Common.{◌≡◌, ◌↔◌, ℕ, ◌≤◌, refl, IsTrue, List, take, drop, ◌∙◌, sym}
use Rattle.std.specs.Prelude.{Result, Ok, Err, IfErr}
use Rattle.store_core.specs.declared.errors.OpenError.{OpenError}
use Rattle.store_core.specs.declared.errors.OpenError.TheVariants as refusal
use Rattle.store_core.specs.Errors.{CountsOpenFault}
use Rattle.std.specs.Str.{bytes_eq}
use Rattle.std.proofs.lemmas.Slice.Eq.{bytes_eq-Decides}
use Rattle.redo_journal.specs.Pages.{magic}

-- the first bytes of an image are compared with some
pub magic_compared : (image bytes marks : List ℕ) → bytes ≡ take 8 (drop 0 image) → IsTrue (bytes_eq bytes marks) ↔ (magic image ≡ marks)
unfolding magic
magic_compared image bytes marks is = (
  λ same. sym is ∙ (bytes_eq-Decides bytes marks).0 same,
  λ same. (bytes_eq-Decides bytes marks).1 (is ∙ same),
)

-- an answer that is no fault says nothing of the count but that it doesn't fall
pub counts_no_fault : {A : Type 0} (result : Result A OpenError) (before now : ℕ) → IfErr result (λ e. e ≡ refusal.DiskFault → ⊥) → before ≤ now
    → CountsOpenFault result before now
counts_no_fault (Ok _) before now none le = le
counts_no_fault (Err refusal.NotStore) before now none le = le
counts_no_fault (Err (refusal.Damaged page broken)) before now none le = le
counts_no_fault (Err refusal.DiskFault) before now none le = absurd (none refl)
counts_no_fault (Err refusal.Memory) before now none le = le
