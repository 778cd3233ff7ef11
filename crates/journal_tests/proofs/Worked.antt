-- A commit from a fresh journal, as a run from the disk that it was made with.
use Rattle.std.proofs.Common.{◌≡◌, ⊎_elim, ℕ, Bool, false, IsTrue, List, None, subst, sym}
use Rattle.spb_edge.specs.Contents.{IsCrashState}
use Rattle.spb_edge.specs.MemDisk.{DiskState, new_disk}
use Rattle.spb_edge.specs.Crash.{IsDurable, CrashesLeaveOnly}
use Rattle.redo_journal.specs.Redo.{RecoversTo, has_open_gate}
use Rattle.redo_journal.specs.Change.{IsBeforeOrAfter}

module _ {D : Type 0} (is_known tells : D → Bool) (image : D → List ℕ) (crash_states : D → List ℕ → Type 0) (moment : D → ℕ) (crash_states_since : D → ℕ
    → List ℕ → Type 0) where
  -- what a commit says of its moments
  abbrev pub CommitSays : D → ℕ → List (ℕ × List ℕ) → D → Type 0
  CommitSays start total entries new = IsTrue (is_known start) → IsTrue (tells start) → IsDurable (image start) (crash_states start)
      → (marks : List ℕ) (home : ℕ → List ℕ)
      → RecoversTo total (image start) marks home → has_open_gate (image start) ≡ false
      → CrashesLeaveOnly moment crash_states_since start new (IsBeforeOrAfter total entries marks home)

  pub from_start : (start staged new last : D) (total t : ℕ) (entries es : List (ℕ × List ℕ)) → staged ≡ start → t ≡ total → es ≡ entries → last ≡ new
      → CommitSays staged t es new → CommitSays start total entries last
  from_start start staged new last total t entries es of_disk of_total of_entries of_last says =
      subst (λ (d : D). CommitSays start total entries d) (sym of_last)
      (subst (λ (d : D). CommitSays d total entries new) of_disk
      (subst (λ (n : ℕ). CommitSays staged n entries new) of_total
      (subst (λ (xs : List (ℕ × List ℕ)). CommitSays staged t xs new) of_entries says)))

-- over a fresh disk in memory nothing is pending
pub nothing_pending : (d : DiskState) (image failing : List ℕ) (calls bytes : ℕ) → d ≡ new_disk image failing None calls bytes
    → IsDurable d.held.image (IsCrashState d.held)
nothing_pending d image failing calls bytes is =
    subst (λ (s : DiskState). IsDurable s.held.image (IsCrashState s.held)) (sym is) (λ c left. ⊎_elim (λ same. same) (λ same. same) left)
