-- What calls on a store answer, and what they leave.
use Rattle.std.specs.Prelude.{◌≡◌, ◌⊎◌, ℕ, ◌<◌, Bool, true, false, List, Contains, Option, Some, None, IsSome, Result, Ok, Err}
use Rattle.spb_defs.specs.State.{State}
use Rattle.page_laws.specs.declared.rule.Rule.TheVariants as rule
use Rattle.row_list.specs.declared.sorting.SlottedRow.{SlottedRow}
use Rattle.object_file.specs.ObjectFile.{Slots, slot_page, is_filled}
use Rattle.store_check.specs.Stands.{Stands}
use Rattle.open_store.specs.declared.errors.First.{First}
use Rattle.open_store.specs.declared.errors.First.TheVariants as first
use Rattle.open_store.specs.declared.errors.ChangeError.{ChangeError}
use Rattle.open_store.specs.declared.errors.ChangeError.TheVariants as change
use Rattle.open_store.specs.SlotChange.{HasSamePool}
use Rattle.open_store.specs.Store.{StoreView, table_at}

-- A spent store answers its first error and stays as it is. One that isn't is spent by the first answer that is an error of
-- the disk, of what the pages hold, or of memory.
abbrev pub Spends : {V : Type 0} → Option First → Result Unit ChangeError → V → V → Option First → Type 0
Spends (Some e) result old new now = (result ≡ Err (change.Spent e)) × (new ≡ old)
Spends None (Ok _) old new now = now ≡ None
Spends None (Err change.Exists) old new now = now ≡ None
Spends None (Err change.Absent) old new now = now ≡ None
Spends None (Err change.Full) old new now = now ≡ None
Spends None (Err change.DiskFault) old new now = now ≡ Some first.DiskFault
Spends None (Err (change.Damaged n r)) old new now = now ≡ Some (first.Damaged n r)
Spends None (Err change.Memory) old new now = now ≡ Some first.Memory
Spends None (Err (change.Spent e)) old new now = ⊥

-- what is refused changes nothing
abbrev pub StaysIfRefused : {V : Type 0} → Result Unit ChangeError → V → V → Type 0
StaysIfRefused (Ok _) old new = Unit {0}
StaysIfRefused (Err change.Exists) old new = new ≡ old
StaysIfRefused (Err change.Absent) old new = new ≡ old
StaysIfRefused (Err change.Full) old new = new ≡ old
StaysIfRefused (Err change.DiskFault) old new = Unit {0}
StaysIfRefused (Err (change.Damaged n r)) old new = Unit {0}
StaysIfRefused (Err change.Memory) old new = Unit {0}
StaysIfRefused (Err (change.Spent e)) old new = new ≡ old

-- what an addition answers, by what is under the key and whether the store is full
abbrev pub AnswersAdd : {X : Type 0} → Option X → Bool → Result Unit ChangeError → Type 0
AnswersAdd found full (Ok _) = (found ≡ None) × (full ≡ false)
AnswersAdd found full (Err change.Exists) = IsSome found
AnswersAdd found full (Err change.Absent) = ⊥
AnswersAdd found full (Err change.Full) = (found ≡ None) × (full ≡ true)
AnswersAdd found full (Err change.DiskFault) = (found ≡ None) × (full ≡ false)
AnswersAdd found full (Err (change.Damaged n r)) = ⊥
AnswersAdd found full (Err change.Memory) = (found ≡ None) × (full ≡ false)
AnswersAdd found full (Err (change.Spent e)) = Unit {0}

-- what a removal or a reading answers, by what is under the key
abbrev pub AnswersKey : {X : Type 0} → Option X → Result Unit ChangeError → Type 0
AnswersKey found (Ok _) = IsSome found
AnswersKey found (Err change.Exists) = ⊥
AnswersKey found (Err change.Absent) = found ≡ None
AnswersKey found (Err change.Full) = ⊥
AnswersKey found (Err change.DiskFault) = IsSome found
AnswersKey found (Err (change.Damaged n r)) = IsSome found
AnswersKey found (Err change.Memory) = IsSome found
AnswersKey found (Err (change.Spent e)) = Unit {0}

-- nothing is damaged
abbrev pub IsSound : Result Unit ChangeError → Type 0
IsSound (Ok _) = Unit {0}
IsSound (Err change.Exists) = Unit {0}
IsSound (Err change.Absent) = Unit {0}
IsSound (Err change.Full) = Unit {0}
IsSound (Err change.DiskFault) = Unit {0}
IsSound (Err (change.Damaged n r)) = ⊥
IsSound (Err change.Memory) = Unit {0}
IsSound (Err (change.Spent e)) = Unit {0}

-- the slot of the row under the key isn't filled
pub record HasUnfilledRow (slots : Slots) (tables : List (List SlottedRow)) (c id : ℕ) : Type 0 where
  pub row : SlottedRow
  pub has : Contains (table_at tables c) row
  pub is_key : row.row.id ≡ id
  pub unfilled : is_filled slots row.slot ≡ false

-- what is damaged is named by the profile page and the rule of slots, and only for this reason
abbrev pub BlamesProfile : Type 0 → Result Unit ChangeError → Type 0
BlamesProfile reason (Ok _) = Unit {0}
BlamesProfile reason (Err change.Exists) = Unit {0}
BlamesProfile reason (Err change.Absent) = Unit {0}
BlamesProfile reason (Err change.Full) = Unit {0}
BlamesProfile reason (Err change.DiskFault) = Unit {0}
BlamesProfile reason (Err (change.Damaged n r)) = (n ≡ 1) × (r ≡ rule.Slot) × reason
BlamesProfile reason (Err change.Memory) = Unit {0}
BlamesProfile reason (Err (change.Spent e)) = Unit {0}

-- the page of a slot below cap
abbrev pub IsPageOfSlots : ℕ → ℕ → Type 0
IsPageOfSlots cap n = (slot : ℕ) × (slot < cap) × (n ≡ slot_page slot)

-- what is damaged is named by the page of a slot below cap and the rule of slots
abbrev pub BlamesSlots : ℕ → Result Unit ChangeError → Type 0
BlamesSlots cap (Ok _) = Unit {0}
BlamesSlots cap (Err change.Exists) = Unit {0}
BlamesSlots cap (Err change.Absent) = Unit {0}
BlamesSlots cap (Err change.Full) = Unit {0}
BlamesSlots cap (Err change.DiskFault) = Unit {0}
BlamesSlots cap (Err (change.Damaged n r)) = IsPageOfSlots cap n × (r ≡ rule.Slot)
BlamesSlots cap (Err change.Memory) = Unit {0}
BlamesSlots cap (Err (change.Spent e)) = Unit {0}

-- an image that stands for one of two states
abbrev pub StandsForEither : State → State → List ℕ → Type 0
StandsForEither s t image = Stands image s ⊎ Stands image t

-- what no call changes: the reference to the disk, the pages, the pool, and what the store was opened with
pub record HasSameSetup {D M : Type 0} (old new : StoreView D M) : Type 0 where
  pub pool_is : HasSamePool old.pages new.pages
  pub pivots_are : new.pivots ≡ old.pivots
  pub profile_is : new.profile ≡ old.profile
  pub metric_is : new.metric ≡ old.metric
