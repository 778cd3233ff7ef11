-- What every call on a disk promises, by what it answers.
use Rattle.std.specs.Prelude.{ℕ, Bool, Result}
use Rattle.spb_edge.specs.Fault.{CountsError}
use Rattle.spb_edge.specs.Calls.{DiskContinues}

module _ {D : Type 0} (is_known knows_crashes : D → Bool) (size_of faults : D → ℕ) where
  -- a call within the disk's size: it continues, and an error is a fault that it counted
  abbrev pub DiskServes : {A E : Type 0} → Result A E → D → D → Type 0
  DiskServes result old new = DiskContinues is_known knows_crashes size_of old new × CountsError result (faults old) (faults new)
