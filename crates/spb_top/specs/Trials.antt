-- What the run of a trial says of its store.
use Rattle.std.specs.Prelude.{◌≡◌, ℕ, ◌≤◌, Bool, false, IsTrue, List, Result, Ok, Err, IfOk, OnOk}
use Rattle.spb_edge.specs.Fault.{HasRisen}
use Rattle.spb_edge.specs.declared.disk.Disk as disk
use Rattle.spb_edge.specs.declared.reader.Line.{Line}
use Rattle.spb_edge.specs.Calls.{StaysKnown}
use Rattle.spb_edge.specs.Crash.{IsDurable, CrashesLeaveOnly}
use Rattle.spb_defs.specs.declared.CurveKind.TheVariants.{Z}
use Rattle.spb_defs.specs.State.{State}
use Rattle.spb_defs.specs.Changes.{state_after_lines}
use Rattle.store_check.specs.Stands.{Stands}
use Rattle.store_core.specs.declared.opening.Opening.{Opening}
use Rattle.store_core.specs.Parts.{disk_in}
use Rattle.trial_script.specs.declared.totals.Totals.{Totals}
use Rattle.trial_script.specs.Script.{trial_space}
use Rattle.trial_script.specs.Totals.{replies_of, totals_of, capped}
use Rattle.spb_top.specs.declared.making.Plan.{Plan}
use Rattle.spb_top.specs.declared.status.Status.{Status}
use Rattle.spb_top.specs.declared.status.Status.TheVariants.{Done, NoMemory, WriteFault, DiskFault, NotStore, Damaged}
use Rattle.spb_top.specs.Turns.{IsUndamagedStop, StandsForOne, StopsTurn, states_through}
use Rattle.spb_top.specs.Opened.{StandsFor}

-- the store of a trial, whose pivots aren't chosen yet
abbrev pub trial_plan : Plan
trial_plan = record { curve = Z; pivots = 4; cap = 65536; space = trial_space }

-- the sums over the replies to the lines
abbrev pub HasTotals : State → List Line → Result Totals Status → Type 0
HasTotals first lines result = IfOk result (λ totals. totals ≡ capped (totals_of (replies_of first lines)))

-- the store is opened, and the lines are answered from it
pub record IsTried {D : Type 0} (E : disk.Ghosts D) (opening : Opening D) (lines : List Line) (result : Result Totals Status) (disk : D) : Type 0 where
  pub totals : (first : State) → StandsFor E opening first → HasTotals first lines result
  pub any_moment : (first : State) → StandsFor E opening first → IsTrue (E.knows_crashes (disk_in opening))
      → CrashesLeaveOnly E.moment E.crash_states_since (disk_in opening) disk (StandsForOne (states_through first lines))
  pub done : (first : State) → StandsFor E opening first → OnOk result (Stands (E.image disk) (state_after_lines first lines))
  pub durable : (first : State) → StandsFor E opening first → IsTrue (E.knows_crashes (disk_in opening))
      → OnOk result (IsDurable (E.image disk) (E.crash_states disk))
  pub undamaged : (first : State) → StandsFor E opening first → IsUndamagedStop result
  pub stops : StopsTurn result (E.faults (disk_in opening)) (E.faults disk)
  pub told : StaysKnown E.is_known E.knows_crashes (disk_in opening) disk

-- why a step of a trial ended the run: memory ran out, the disk counted a fault, or a store isn't opened, which never
-- happens over a known disk. The count of faults never falls.
abbrev pub StopsTrial : {A : Type 0} → Bool → Result A Status → ℕ → ℕ → Type 0
StopsTrial known (Ok _) before now = before ≤ now
StopsTrial known (Err NoMemory) before now = before ≤ now
StopsTrial known (Err DiskFault) before now = (before ≤ now) × HasRisen before now
StopsTrial known (Err NotStore) before now = (before ≤ now) × (known ≡ false)
StopsTrial known (Err (Damaged page rule)) before now = (before ≤ now) × (known ≡ false)
StopsTrial known (Err _) before now = ⊥

-- why the printing of the sums ended: the line was put, memory ran out, or the sink counted a fault
abbrev pub StopsPrint : Status → ℕ → ℕ → Type 0
StopsPrint Done before now = before ≤ now
StopsPrint NoMemory before now = before ≤ now
StopsPrint WriteFault before now = (before ≤ now) × HasRisen before now
StopsPrint _ before now = ⊥
