-- How sessions end, and what an answer of a session counts.
use Rattle.std.specs.Prelude.{◌≡◌, ◌⊎◌, ℕ, ◌≤◌, Option, Some, None, Result, Ok, Err}
use Rattle.spb_edge.specs.Fault.{HasRisen}
use Rattle.spb_defs.specs.declared.Reply.{Reply}
use Rattle.page_laws.specs.declared.rule.Rule.{Rule}
use Rattle.page_laws.specs.declared.rule.Rule.TheVariants as rule
use Rattle.open_store.specs.declared.errors.First.{First}
use Rattle.open_store.specs.declared.errors.First.TheVariants as first
use Rattle.open_store.specs.Answers.{IsPageOfSlots}
use Rattle.session.specs.declared.endings.Ending.{Ending}
use Rattle.session.specs.declared.endings.Ending.TheVariants as ending

-- the answer of the turn that ends a session
abbrev pub ending_of : First → Ending
ending_of first.DiskFault = ending.DiskFault
ending_of (first.Damaged n r) = ending.Damaged n r
ending_of first.Memory = ending.NoMemory

-- A reply comes exactly if the session hasn't ended, unless it ends in this turn, and the session goes on. An ending is the
-- session's first error, and from then on each turn answers it and leaves the session as it is.
abbrev pub EndsOrGoesOn : {V : Type 0} → Option First → Result Reply Ending → V → V → Option First → Type 0
EndsOrGoesOn (Some e) result old new now = (result ≡ Err (ending.Spent e)) × (new ≡ old)
EndsOrGoesOn None (Ok said) old new now = now ≡ None
EndsOrGoesOn None (Err ending.DiskFault) old new now = now ≡ Some first.DiskFault
EndsOrGoesOn None (Err (ending.Damaged n r)) old new now = now ≡ Some (first.Damaged n r)
EndsOrGoesOn None (Err ending.NoMemory) old new now = now ≡ Some first.Memory
EndsOrGoesOn None (Err (ending.Spent e)) old new now = ⊥

-- a fault is counted, and the count never falls
abbrev pub CountsTurnFault : Result Reply Ending → ℕ → ℕ → Type 0
CountsTurnFault (Ok said) before now = before ≤ now
CountsTurnFault (Err ending.DiskFault) before now = (before ≤ now) × HasRisen before now
CountsTurnFault (Err (ending.Damaged n r)) before now = before ≤ now
CountsTurnFault (Err ending.NoMemory) before now = before ≤ now
CountsTurnFault (Err (ending.Spent e)) before now = before ≤ now

-- nothing is damaged
abbrev pub IsUndamagedTurn : Result Reply Ending → Type 0
IsUndamagedTurn (Ok said) = Unit {0}
IsUndamagedTurn (Err ending.DiskFault) = Unit {0}
IsUndamagedTurn (Err (ending.Damaged n r)) = ⊥
IsUndamagedTurn (Err ending.NoMemory) = Unit {0}
IsUndamagedTurn (Err (ending.Spent e)) = Unit {0}

-- a turn after the end leaves this as it was
abbrev pub StaysIfSpent : {R : Type 0} → Result Reply Ending → R → R → Type 0
StaysIfSpent (Ok said) old new = Unit {0}
StaysIfSpent (Err ending.DiskFault) old new = Unit {0}
StaysIfSpent (Err (ending.Damaged n r)) old new = Unit {0}
StaysIfSpent (Err ending.NoMemory) old new = Unit {0}
StaysIfSpent (Err (ending.Spent e)) old new = new ≡ old

-- what is damaged breaks the rule of slots: it is the profile page, or the page of a slot below cap
abbrev pub BreaksSlotRule : ℕ → ℕ → Rule → Type 0
BreaksSlotRule cap n r = (r ≡ rule.Slot) × ((n ≡ 1) ⊎ IsPageOfSlots cap n)

abbrev pub BlamesSlotRule : ℕ → Result Reply First → Type 0
BlamesSlotRule cap (Ok said) = Unit {0}
BlamesSlotRule cap (Err first.DiskFault) = Unit {0}
BlamesSlotRule cap (Err (first.Damaged n r)) = BreaksSlotRule cap n r
BlamesSlotRule cap (Err first.Memory) = Unit {0}

-- the same of a turn
abbrev pub BlamesInTurn : ℕ → Result Reply Ending → Type 0
BlamesInTurn cap (Ok said) = Unit {0}
BlamesInTurn cap (Err ending.DiskFault) = Unit {0}
BlamesInTurn cap (Err (ending.Damaged n r)) = BreaksSlotRule cap n r
BlamesInTurn cap (Err ending.NoMemory) = Unit {0}
BlamesInTurn cap (Err (ending.Spent e)) = Unit {0}
