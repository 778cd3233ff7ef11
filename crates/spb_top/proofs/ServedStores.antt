-- A store that was made of an opening, and the lines that were answered from it.
use Rattle.std.proofs.Common.{◌≡◌, ℕ, ◌≤◌, IsTrue, List, sym, subst, ◌∙◌, Bool, ap}
use Rattle.spb_edge.specs.declared.source.Source as source
use Rattle.spb_edge.specs.declared.sink.Sink as sink
use Rattle.spb_edge.specs.declared.disk.Disk as disk
use Rattle.spb_edge.specs.declared.reader.Line.{Line}
use Rattle.spb_edge.specs.Calls.{StaysKnown}
use Rattle.spb_edge.specs.Crash.{Includes}
use Rattle.spb_edge.specs.Moments.{started, joined}
use Rattle.spb_edge.specs.Quiet.{calmly}
use Rattle.spb_defs.specs.State.{State}
use Rattle.redo_journal.specs.Pages.{page}
use Rattle.store_check.specs.Opened.{state_in}
use Rattle.store_check.specs.Stands.{Stands}
use Rattle.store_check.proofs.Standing.{one}
use Rattle.store_core.specs.declared.opening.Opening.{Opening}
use Rattle.store_core.specs.Parts.{disk_in, profile_of}
use Rattle.store_core.proofs.StartedImages.{stored_stands}
use Rattle.open_store.specs.Store.{StoreView, IsInState}
use Rattle.session.specs.FileSession.{FileView}
use Rattle.spb_top.specs.declared.status.Status.{Status}
use Rattle.spb_top.specs.declared.status.Status.TheVariants.{Done, Usage, NoMemory, ReadFault, WriteFault, DiskFault, NotStore, Damaged, InputLimit, TooWide, NoSample, BadSample, NotEmpty}
use Rattle.spb_top.specs.Outside.{traffic_of}
use Rattle.spb_top.specs.Causes.{HasServingCause}
use Rattle.spb_top.specs.Turns.{StandsForOne, states_through}
use Rattle.spb_top.specs.FileTurns.{HoldsFile, LeavesFile}
use Rattle.spb_top.specs.Opened.{IsSettled, StandsFor}
use Rattle.spb_top.proofs.Answered.{first_through}
use Rattle.spb_top.proofs.Faults.{risen_later}
use Rattle.spb_top.proofs.OpenedFiles.{Quiet, Leaves}

-- a cause is one since any earlier count of the disk's faults
pub cause_before : {S K : Type 0} (G : source.Ghosts S) (H : sink.Ghosts K) (input input' : S) (output output' : K) (before between now : ℕ) → before ≤ between
    → (status : Status) → HasServingCause status (traffic_of G H input input' output output' between now)
    → HasServingCause status (traffic_of G H input input' output output' before now)
cause_before G H input input' output output' before between now earlier Done cause = cause
cause_before G H input input' output output' before between now earlier Usage cause = cause
cause_before G H input input' output output' before between now earlier NoMemory cause = cause
cause_before G H input input' output output' before between now earlier ReadFault cause = cause
cause_before G H input input' output output' before between now earlier WriteFault cause = cause
cause_before G H input input' output output' before between now earlier DiskFault cause = risen_later before between now earlier cause
cause_before G H input input' output output' before between now earlier NotStore cause = cause
cause_before G H input input' output output' before between now earlier (Damaged page rule) cause = cause
cause_before G H input input' output output' before between now earlier InputLimit cause = cause
cause_before G H input input' output output' before between now earlier TooWide cause = cause
cause_before G H input input' output output' before between now earlier NoSample cause = cause
cause_before G H input input' output output' before between now earlier (BadSample line) cause = cause
cause_before G H input input' output output' before between now earlier NotEmpty cause = cause

-- what is known of a disk over a quiet stretch and a stretch that keeps it
pub stays_known : {D : Type 0} (E : disk.Ghosts D) (old mid new : D) → Quiet E old mid
    → ◌≡◌ {A = Bool × Bool} (E.is_known new, E.knows_crashes new) (E.is_known mid, E.knows_crashes mid) → StaysKnown E.is_known E.knows_crashes old new
stays_known E old mid new quiet same = (ap (λ (p : Bool × Bool). p.0) same ∙ quiet.tells, ap (λ (p : Bool × Bool). p.1) same ∙ quiet.tells_crashes_too)

module _ {D : Type 0} (E : disk.Ghosts D) (opening : Opening D) where
  -- the state that the opening's pages hold
  abbrev pub state_of : State
  state_of = state_in (page (E.image (disk_in opening))) (profile_of opening)

  module _ {M : Type 0} where
    -- the store was made of the opening, and its disk is as it was
    pub record IsMade (store : StoreView D M) : Type 0 where
      pub in_state : IsTrue (E.is_known (disk_in opening)) → IsInState E.is_known E.image store state_of
      pub quiet : Quiet E (disk_in opening) store.pages.disk

    module _ (session : FileView D M) (made : IsMade session.store) where
      pub stands_for : IsTrue (E.is_known (disk_in opening)) → Stands (E.image (disk_in opening)) state_of
      stands_for known = subst (λ image. Stands image state_of) (made.quiet.image_is known)
          (stored_stands (E.image session.store.pages.disk) state_of (made.in_state known).stored)

      -- the session goes on from the state that the image stands for
      pub holds : IsSettled E opening → (first : State) → StandsFor E opening first
          → HoldsFile E.is_known E.knows_crashes E.image E.crash_states session first
      holds settled first (known, stands) = record {
        stands = subst (IsInState E.is_known E.image session.store) (one (E.image (disk_in opening)) state_of first (stands_for known) stands)
            (made.in_state known);
        durable = λ tells c left.
            settled known (subst IsTrue made.quiet.tells_crashes_too tells) c (made.quiet.no_more c left) ∙ sym (made.quiet.image_is known);
      }

      -- from the opening on a crash leaves one of the states that the lines lead through
      pub leaves : Includes (E.crash_states (disk_in opening)) (E.crash_states_since (disk_in opening) (E.moment (disk_in opening)))
          → IsSettled E opening → (first : State) → StandsFor E opening first → IsTrue (E.knows_crashes (disk_in opening)) → (lines : List Line)
          → (session' : FileView D M) → LeavesFile E.is_known E.knows_crashes E.moment E.crash_states_since session session' (states_through first lines)
          → Leaves E (disk_in opening) session'.store.pages.disk (StandsForOne (states_through first lines))
      leaves only_now settled first (known, stands) tells lines session' left =
          let P = StandsForOne (states_through first lines) in
          let now : (c : List ℕ) → E.crash_states (disk_in opening) c → P c =
          λ c is. (first, first_through first lines, subst (λ (image : List ℕ). Stands image first) (sym (settled known tells c is)) stands) in
          joined E.moment E.crash_states_since (disk_in opening) session.store.pages.disk session'.store.pages.disk P
          (calmly E.is_known E.knows_crashes E.size_of E.image E.crash_states E.moment E.crash_states_since (disk_in opening) (disk_in opening)
          session.store.pages.disk P
          (started E.moment E.crash_states_since (disk_in opening) P (λ c is. now c (only_now c is))) made.quiet now)
          (left.crashes (subst IsTrue (sym made.quiet.tells_crashes_too) tells))
