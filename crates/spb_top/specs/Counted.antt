-- What the counting of a store's objects says of its file.
use Rattle.std.specs.Prelude.{◌≡◌, ℕ, ◌≤◌, IsTrue, length, Result, Ok, Err}
use Rattle.spb_edge.specs.Crash.{IsDurable}
use Rattle.spb_edge.specs.Fault.{HasRisen}
use Rattle.spb_edge.specs.declared.disk.Disk as disk
use Rattle.spb_defs.specs.State.{State}
use Rattle.store_check.specs.Stands.{Stands, IsNoStore}
use Rattle.store_check.specs.Damage.{Breaks}
use Rattle.store_core.specs.declared.errors.OpenError.{OpenError}
use Rattle.store_core.specs.declared.errors.OpenError.TheVariants as refusal

-- the file stood for one state before, and stands for it with nothing pending
pub record IsFound {D : Type 0} (E : disk.Ghosts D) (old new : D) (objects : ℕ) : Type 0 where
  pub state : State
  pub stood : Stands (E.image old) state
  pub stands : Stands (E.image new) state
  pub objects_are : objects ≡ length state.members
  pub durable : IsTrue (E.knows_crashes old) → IsDurable (E.image new) (E.crash_states new)

-- what a counting of the objects answers; a fault is counted, and the count never falls
abbrev pub CountsObjects : {D : Type 0} → disk.Ghosts D → D → D → Result ℕ OpenError → Type 0
CountsObjects E old new (Ok objects) = (IsTrue (E.is_known old) → IsFound E old new objects) × (E.faults old ≤ E.faults new)
CountsObjects E old new (Err refusal.NotStore) = (IsTrue (E.is_known old) → IsNoStore (E.image old)) × (E.faults old ≤ E.faults new)
CountsObjects E old new (Err (refusal.Damaged page rule)) = (IsTrue (E.is_known old) → Breaks (E.image old) page rule) × (E.faults old ≤ E.faults new)
CountsObjects E old new (Err refusal.DiskFault) = (E.faults old ≤ E.faults new) × HasRisen (E.faults old) (E.faults new)
CountsObjects E old new (Err refusal.Memory) = E.faults old ≤ E.faults new
