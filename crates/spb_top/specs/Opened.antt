-- What is done with a store's file once its profile and its pivots are read.
use Rattle.std.specs.Prelude.{◌≡◌, ℕ, ◌++◌, ◌≤◌, false, IsTrue, List, length, Some}
use Rattle.spb_edge.specs.declared.source.Source as source
use Rattle.spb_edge.specs.declared.sink.Sink as sink
use Rattle.spb_edge.specs.declared.disk.Disk as disk
use Rattle.spb_edge.specs.Calls.{StaysKnown}
use Rattle.spb_edge.specs.Crash.{IsDurable, CrashesLeaveOnly}
use Rattle.spb_edge.specs.Lines.{lines_of}
use Rattle.spb_defs.specs.declared.TheConstants.{LINE_LIMIT}
use Rattle.spb_defs.specs.State.{State}
use Rattle.spb_defs.specs.Changes.{last_state}
use Rattle.redo_journal.specs.Redo.{has_open_gate}
use Rattle.store_check.specs.Stands.{Stands}
use Rattle.store_core.specs.declared.errors.OpenError.{OpenError}
use Rattle.store_core.specs.declared.opening.Opening.{Opening}
use Rattle.store_core.specs.Errors.{CountsRefusal}
use Rattle.store_core.specs.Finish.{IsOpened, IsLastRefusal, RefusesOpened}
use Rattle.store_core.specs.Parts.{disk_in, profile_of, pivots_of}
use Rattle.spb_top.specs.declared.status.Status.{Status}
use Rattle.spb_top.specs.declared.status.Status.TheVariants.{Done}
use Rattle.spb_top.specs.Outside.{NoneFell, traffic_of}
use Rattle.spb_top.specs.Written.{WritesReplies, LeavesInput}
use Rattle.spb_top.specs.Causes.{HasServingCause}
use Rattle.spb_top.specs.Turns.{AnsweredLines, IsUndamaged, StandsForOne, states_after, states_through}

module _ {D : Type 0} (E : disk.Ghosts D) where
  -- if the image of the opening is known, its pages hold the profile and the pivots
  abbrev pub IsRead : Opening D → Type 0
  IsRead opening = IsTrue (E.is_known (disk_in opening)) → IsOpened (E.image (disk_in opening)) (profile_of opening) (pivots_of opening)

  -- the image of the opening is known, and stands for the state
  abbrev pub StandsFor : Opening D → State → Type 0
  StandsFor opening s = IsTrue (E.is_known (disk_in opening)) × Stands (E.image (disk_in opening)) s

  -- if the crash states of the opening's disk are known, nothing is pending
  abbrev pub IsSettled : Opening D → Type 0
  IsSettled opening = IsTrue (E.is_known (disk_in opening)) → IsTrue (E.knows_crashes (disk_in opening))
      → IsDurable (E.image (disk_in opening)) (E.crash_states (disk_in opening))

  -- the store is refused, and its disk is as it was
  pub record IsTurnedAway (opening : Opening D) (refusal : OpenError) (disk : D) : Type 0 where
    pub refuses : IsTrue (E.is_known (disk_in opening)) → RefusesOpened refusal (E.image (disk_in opening))
    pub kinds : IsLastRefusal refusal
    pub quiet : E.quiet (disk_in opening) disk
    pub told : StaysKnown E.is_known E.knows_crashes (disk_in opening) disk
    pub fault : CountsRefusal refusal (E.faults (disk_in opening)) (E.faults disk)

  -- the store is opened, with this many objects, and its disk is as it was
  pub record IsCounted (opening : Opening D) (objects : ℕ) (disk : D) : Type 0 where
    pub stands : IsTrue (E.is_known (disk_in opening)) → (s : State) × Stands (E.image (disk_in opening)) s × (objects ≡ length s.members)
    pub quiet : E.quiet (disk_in opening) disk
    pub told : StaysKnown E.is_known E.knows_crashes (disk_in opening) disk
    pub faults : E.faults (disk_in opening) ≤ E.faults disk

module _ {S K D : Type 0} (G : source.Ghosts S) (H : sink.Ghosts K) (E : disk.Ghosts D) where
  -- the store is opened, and the lines of the input are answered from it
  pub record IsServed (opening : Opening D) (status : Status) (input input' : S) (output output' : K) (disk : D) : Type 0 where
    pub stands : IsTrue (E.is_known (disk_in opening)) → (first : State) × Stands (E.image (disk_in opening)) first
    pub text : (first : State) → StandsFor E opening first → (script : List ℕ) → G.left input ≡ Some script
        → WritesReplies status first script (G.left input') (H.taken output) (H.taken output')
    pub left : (script : List ℕ) → G.left input ≡ Some script → LeavesInput status script (G.left input')
    pub any_moment : (first : State) → StandsFor E opening first → IsTrue (E.knows_crashes (disk_in opening)) → (script : List ℕ) → G.left input ≡ Some script
        → CrashesLeaveOnly E.moment E.crash_states_since (disk_in opening) disk (StandsForOne (states_through first (lines_of LINE_LIMIT script)))
    pub acknowledged : (first : State) → StandsFor E opening first → IsTrue (E.knows_crashes (disk_in opening)) → (script : List ℕ) → G.left input ≡ Some script
        → (before written : List ℕ) → H.taken output ≡ Some before → H.taken output' ≡ Some (before ++ written)
        → (many : ℕ) → AnsweredLines first (lines_of LINE_LIMIT script) written many
        → (c : List ℕ) → E.crash_states disk c → StandsForOne (states_after first (lines_of LINE_LIMIT script) many) c
    pub done : (first : State) → StandsFor E opening first → (script : List ℕ) → G.left input ≡ Some script → status ≡ Done
        → Stands (E.image disk) (last_state first script) × (has_open_gate (E.image disk) ≡ false)
    pub durable : (first : State) → StandsFor E opening first → IsTrue (E.knows_crashes (disk_in opening)) → (script : List ℕ) → G.left input ≡ Some script → status ≡ Done
        → IsDurable (E.image disk) (E.crash_states disk)
    pub cause : HasServingCause status (traffic_of G H input input' output output' (E.faults (disk_in opening)) (E.faults disk))
    pub undamaged : (first : State) → StandsFor E opening first → IsUndamaged status
    pub faults : NoneFell (traffic_of G H input input' output output' (E.faults (disk_in opening)) (E.faults disk))
    pub told : StaysKnown E.is_known E.knows_crashes (disk_in opening) disk
