-- What the slots of a file hold, as an opening reads them one after another.
use Rattle.std.specs.Prelude.{◌≡◌, ◌⊎◌, ℕ, ◌+◌, ◌*◌, ◌^◌, ◌<◌, min, Bool, List, [], ◌∷◌, ◌++◌, length, All, slice_set}
use Rattle.std.specs.List.{slice_index_or}
use Rattle.std.specs.List.Sorted.{IsPermutation}
use Rattle.metric_laws.specs.Objects.{Object, Distance}
use Rattle.metrics_builtin.specs.declared.Space.{Space}
use Rattle.spb_defs.specs.Pivots.{cells_of}
use Rattle.page_laws.specs.Pages.{AreFree}
use Rattle.page_laws.specs.declared.errors.PageError.{PageError}
use Rattle.page_laws.specs.declared.errors.PageError.TheVariants as page
use Rattle.page_laws.specs.declared.rule.Rule.TheVariants as rule
use Rattle.row_list.specs.declared.sorting.SlottedRow.{SlottedRow}
use Rattle.row_list.specs.Slotted.{RepeatsId}
use Rattle.row_list.specs.Lists.{ListedRows, IsListed, slotted}
use Rattle.object_file.specs.declared.file.TheConstants.{SLOTS_PER_PAGE}
use Rattle.object_file.specs.Slots.{Slot}
use Rattle.object_file.specs.ObjectFile.{is_slot, slot_page, slot_at}
use Rattle.store_check.specs.Stands.{IsReadable}
use Rattle.store_check.specs.Damage.{HoldsAgain}
use Rattle.slot_laws.specs.SlotTables.{AreRead}
use Rattle.open_store.specs.Store.{table_at, slot_tables, row_count, measured_row}
use Rattle.store_core.specs.declared.errors.OpenError.{OpenError}
use Rattle.store_core.specs.declared.errors.OpenError.TheVariants as refusal

-- ---- tables in memory

-- rows of objects that are measured, each with its cells and a slot below n
pub record IsSlotTable (admitted : Object → Type 0) (dist : Distance) (pivots : List Object) (n : ℕ) (table : List SlottedRow) : Type 0 where
  pub below : All (λ (row : SlottedRow). row.slot < n) table
  pub objects : All (λ (row : SlottedRow). admitted row.row.object) table
  pub vects : All (λ (row : SlottedRow). row.row.vect ≡ cells_of dist pivots row.row.object) table

-- of the slots below n, each has a row in one of the four tables, or is free
pub record HasTables (admitted : Object → Type 0) (dist : Distance) (pivots : List Object) (n : ℕ) (tables : List (List SlottedRow)) (free : List ℕ) : Type 0 where
  pub four : length tables ≡ 4
  pub each : All (IsSlotTable admitted dist pivots n) tables
  pub counted : row_count tables + length free ≡ n
  pub unused : AreFree (is_slot n) free

-- the tables have one row more, behind those of its collection: that of an object that is measured, under an id of 32 bits
pub record AddsRow (admitted : Object → Type 0) (dist : Distance) (pivots : List Object) (slot collection id : ℕ) (object : Object)
    (old new : List (List SlottedRow)) : Type 0 where
  pub object_is : admitted object
  pub few : id < 2 ^ 32
  pub pushed : new ≡ slice_set old collection (table_at old collection ++ record { slot = slot; row = measured_row dist pivots id object } ∷ [])

-- ---- what the pages hold

-- the slots below n of these pages are read: they are readable, and the tables and the free slots are theirs
abbrev pub HoldsTables : Space → ℕ → (ℕ → List ℕ) → List (List SlottedRow) → List ℕ → Type 0
HoldsTables space n pages tables free = AreRead space n (slot_at pages) (slot_tables tables) free

-- the first slots, those of so many pages
abbrev pub slots_before : ℕ → ℕ → ℕ
slots_before cap pages = min cap (SLOTS_PER_PAGE * pages)

-- a slot of this page isn't readable, or holds what a lower one holds
pub record HasBadSlotAt (space : Space) (cap : ℕ) (slots : ℕ → Slot) (page : ℕ) : Type 0 where
  pub slot : ℕ
  pub below : slot < cap
  pub page_is : page ≡ slot_page slot
  pub bad : (IsReadable space (slots slot) → ⊥) ⊎ HoldsAgain slots slot

-- ---- refusals

-- the damage of a slot for this reason, or want of memory
abbrev pub RefusesSlot : Type 0 → ℕ → OpenError → Type 0
RefusesSlot reason slot refusal.NotStore = ⊥
RefusesSlot reason slot (refusal.Damaged page rule.Slot) = (page ≡ slot_page slot) × reason
RefusesSlot reason slot (refusal.Damaged page broken) = ⊥
RefusesSlot reason slot refusal.DiskFault = ⊥
RefusesSlot reason slot refusal.Memory = Unit {0}

-- the damage of a slot of these, or what isn't of their content
abbrev pub RefusesSlots : Space → ℕ → (ℕ → Slot) → OpenError → Type 0
RefusesSlots space cap slots refusal.NotStore = ⊥
RefusesSlots space cap slots (refusal.Damaged page rule.Slot) = HasBadSlotAt space cap slots page
RefusesSlots space cap slots (refusal.Damaged page broken) = ⊥
RefusesSlots space cap slots refusal.DiskFault = Unit {0}
RefusesSlots space cap slots refusal.Memory = Unit {0}

-- the rule of slots, a fault, or want of memory
abbrev pub IsSlotRefusal : OpenError → Type 0
IsSlotRefusal refusal.NotStore = ⊥
IsSlotRefusal (refusal.Damaged page rule.Slot) = Unit {0}
IsSlotRefusal (refusal.Damaged page broken) = ⊥
IsSlotRefusal refusal.DiskFault = Unit {0}
IsSlotRefusal refusal.Memory = Unit {0}

-- the refusal for an error of pages
abbrev pub page_refusal : PageError → OpenError
page_refusal page.Fault = refusal.DiskFault
page_refusal page.Memory = refusal.Memory

-- ---- lists

-- the list has the rows of the table
abbrev pub IsListOf : List SlottedRow → ListedRows → Type 0
IsListOf table list = IsPermutation table (slotted list.rows list.slots) × IsListed list.rows list.slots

-- each of the four lists has the rows of its collection's table
pub record AreListsOf (tables : List (List SlottedRow)) (lists : List ListedRows) : Type 0 where
  pub four : length lists ≡ 4
  pub each : (c : ℕ) (default : ListedRows) → c < 4 → IsListOf (table_at tables c) (slice_index_or lists c default)

-- a row of the table has the id of a row of a lower slot, and its slot is on this page
pub record HasRepeatOn (table : List SlottedRow) (page : ℕ) : Type 0 where
  pub slot : ℕ
  pub page_is : page ≡ slot_page slot
  pub repeats : RepeatsId table slot

-- the same of one of the four tables
pub record HasRepeatIn (tables : List (List SlottedRow)) (page : ℕ) : Type 0 where
  pub collection : ℕ
  pub inside : collection < 4
  pub repeat : HasRepeatOn (table_at tables collection) page

-- the damage of a slot for this reason on its page, or want of memory
abbrev pub RefusesPage : (ℕ → Type 0) → OpenError → Type 0
RefusesPage reason refusal.NotStore = ⊥
RefusesPage reason (refusal.Damaged page rule.Slot) = reason page
RefusesPage reason (refusal.Damaged page broken) = ⊥
RefusesPage reason refusal.DiskFault = ⊥
RefusesPage reason refusal.Memory = Unit {0}

-- ---- pages

-- of pages with these members, what stays when some are made free: all but the free pages, and the call was calm
pub record HasSamePages {P : Type 0} (is_known : P → Bool) (has in_pool : P → ℕ → Bool) (is_open : P → Bool) (put_pages : P → List ℕ) (faults : P → ℕ)
    (calm : P → P → Type 0) (old new : P) : Type 0 where
  pub told : is_known new ≡ is_known old
  pub map : has new ≡ has old
  pub pool : in_pool new ≡ in_pool old
  pub change : is_open new ≡ is_open old
  pub put : put_pages new ≡ put_pages old
  pub counted : faults new ≡ faults old
  pub calmly : calm old new
