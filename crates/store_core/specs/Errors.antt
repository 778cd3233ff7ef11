-- What the errors of an opening say of the disk's count of faults.
use Rattle.std.specs.Prelude.{ℕ, ◌≤◌, Result, Ok, Err}
use Rattle.spb_edge.specs.Fault.{HasRisen}
use Rattle.store_core.specs.declared.errors.OpenError.{OpenError}
use Rattle.store_core.specs.declared.errors.OpenError.TheVariants as refusal

-- a fault is answered only if it was counted, and the count never falls
abbrev pub CountsRefusal : OpenError → ℕ → ℕ → Type 0
CountsRefusal refusal.NotStore before now = before ≤ now
CountsRefusal (refusal.Damaged page rule) before now = before ≤ now
CountsRefusal refusal.DiskFault before now = (before ≤ now) × HasRisen before now
CountsRefusal refusal.Memory before now = before ≤ now

-- the same of an answer
abbrev pub CountsOpenFault : {A : Type 0} → Result A OpenError → ℕ → ℕ → Type 0
CountsOpenFault (Ok _) before now = before ≤ now
CountsOpenFault (Err e) before now = CountsRefusal e before now
