-- An open store, as contracts see it.
use Rattle.std.specs.Prelude.{◌≡◌, ℕ, ◌+◌, ◌*◌, ◌<◌, ◌≤◌, nat_le, Bool, false, IsTrue, List, [], length, map, All, sum_by, Option, Some, None}
use Rattle.std.specs.List.{slice_index_or}
use Rattle.metric_laws.specs.Objects.{Object, Distance}
use Rattle.spb_defs.specs.Pivots.{cells_of}
use Rattle.spb_defs.specs.MetricOf.{IsMetricOf}
use Rattle.spb_defs.specs.State.{State, with_object, without_object}
use Rattle.pivot_map.specs.declared.row.Row.{Row}
use Rattle.pivot_map.specs.Rows.{entry_of, ArePivots, AreRows}
use Rattle.row_table.specs.Tables.{row_with}
use Rattle.row_list.specs.declared.sorting.SlottedRow.{SlottedRow}
use Rattle.row_list.specs.Lists.{ListedRows, IsInOrder, slotted}
use Rattle.row_list.specs.Slotted.{rows_of}
use Rattle.page_laws.specs.Pages.{is_among}
use Rattle.redo_journal.specs.declared.layout.TheConstants.{PAGE_SIZE, FIRST_HOME}
use Rattle.redo_journal.specs.Pages.{page, magic}
use Rattle.redo_journal.specs.Redo.{has_open_gate}
use Rattle.page_store.specs.PageStore.{PagesView, in_pool}
use Rattle.object_file.specs.ObjectFile.{Slots, slot_at}
use Rattle.store_check.specs.declared.profile.Profile.{Profile}
use Rattle.store_check.specs.Layout.{slot_pages, pool_pages, file_pages}
use Rattle.store_check.specs.Profile.{profile_in, IsInRange}
use Rattle.store_check.specs.Stands.{Keeps, store_magic}
use Rattle.slot_laws.specs.FreeSlots.{AreFreeSlots}
use Rattle.slot_laws.specs.SlotTables.{SlotRow, AreTablesOf}
use Rattle.open_store.specs.declared.errors.First.{First}
use Rattle.open_store.specs.declared.store.Setup.{Setup}
use Rattle.open_store.specs.SlotChange.{IsReady}

-- ---- rows with their slots

-- the rows of the lists, each with its slot
abbrev pub tables_of : List ListedRows → List (List SlottedRow)
tables_of lists = map (λ (list : ListedRows). slotted list.rows list.slots) lists

-- the rows of a collection, with their slots
abbrev pub table_at : List (List SlottedRow) → ℕ → List SlottedRow
table_at tables c = slice_index_or tables c []

-- the row of a collection with the id
abbrev pub row_in : List (List SlottedRow) → ℕ → ℕ → Option Row
row_in tables c id = row_with id (rows_of (table_at tables c))

-- a row, as its slot has it
abbrev pub slot_row : SlottedRow → SlotRow
slot_row row = (row.slot, entry_of row.row)

-- the rows, as the slots have them
abbrev pub slot_tables : List (List SlottedRow) → List (List SlotRow)
slot_tables tables = map (λ (table : List SlottedRow). map slot_row table) tables

-- rows of one collection in ascending order of id, with slots below cap
pub record IsTable (admitted : Object → Type 0) (dist : Distance) (pivots : List Object) (cap : ℕ) (table : List SlottedRow) : Type 0 where
  pub order : IsInOrder (rows_of table)
  pub rows : AreRows admitted dist pivots (rows_of table)
  pub below : All (λ (row : SlottedRow). row.slot < cap) table

-- the row of an object, with its cells
abbrev pub measured_row : Distance → List Object → ℕ → Object → Row
measured_row dist pivots id object = record { id = id; object = object; vect = cells_of dist pivots object }

-- ---- the store

-- The pages; how many slots there are, and the free ones; the rows of the four collections, with their slots; the pivots,
-- the profile and the metric that the store was opened with; and the error after which it is spent.
pub record StoreView (D M : Type 0) : Type 0 where
  pub pages : PagesView D
  pub slots : Slots
  pub tables : List (List SlottedRow)
  pub pivots : List Object
  pub profile : Profile
  pub metric : M
  pub spent : Option First

-- the store of these parts
abbrev pub store_of : {D M : Type 0} → PagesView D → Slots → List ListedRows → List Object → Profile → M → Option First → StoreView D M
store_of pages slots lists pivots profile metric spent =
    record { pages = pages; slots = slots; tables = tables_of lists; pivots = pivots; profile = profile; metric = metric; spent = spent }

-- the same with what it was opened with
abbrev pub opened_store : {D M : Type 0} → PagesView D → Slots → List ListedRows → Setup M → Option First → StoreView D M
opened_store pages slots lists setup spent = store_of pages slots lists setup.pivots.items setup.profile setup.metric spent

-- how many rows there are
abbrev pub row_count : List (List SlottedRow) → ℕ
row_count tables = sum_by length tables

-- whether there are as many rows as there may be
abbrev pub is_full_store : {D M : Type 0} → StoreView D M → Bool
is_full_store v = nat_le v.profile.cap (row_count v.tables)

-- What holds of every open store. The profile is in its ranges; pages, pool, slots and pivots are as many as it says; the
-- metric is that of its space; and each collection has a table. Unless the store is spent, no change is under way, and
-- each slot has a row or is free.
pub record IsStore {D M : Type 0} (is_known : D → Bool) (image : D → List ℕ) (admitted : M → Object → Type 0) (dist : M → Distance) (v : StoreView D M) : Type 0 where
  pub in_range : IsInRange v.profile
  pub metric_is : IsMetricOf (admitted v.metric) (dist v.metric) v.profile.space
  pub total_is : v.pages.total ≡ file_pages v.profile.cap
  pub first_is : v.pages.first ≡ FIRST_HOME + slot_pages v.profile.cap
  pub count_is : v.pages.count ≡ pool_pages v.profile.cap
  pub cap_is : v.slots.cap ≡ v.profile.cap
  pub pivots_are : ArePivots (admitted v.metric) v.pivots
  pub pivot_count : length v.pivots ≡ v.profile.pivots
  pub four : length v.tables ≡ 4
  pub each : All (IsTable (admitted v.metric) (dist v.metric) v.pivots v.profile.cap) v.tables
  pub few : row_count v.tables ≤ v.profile.cap
  pub counted : v.spent ≡ None → row_count v.tables + length v.slots.free ≡ v.profile.cap
  pub ready : v.spent ≡ None → IsReady v.pages
  pub closed : v.spent ≡ None → IsTrue (is_known v.pages.disk) → has_open_gate (image v.pages.disk) ≡ false

-- the image has the length of its cap, the magic, a closed gate, and pages that hold the state
pub record IsStored (image : List ℕ) (s : State) : Type 0 where
  pub size : length image ≡ PAGE_SIZE * file_pages s.cap
  pub marks_are : magic image ≡ store_magic
  pub closed : has_open_gate image ≡ false
  pub keeps : Keeps (page image) s

-- The store stands for a state: its image is known and holds the state, and its profile, pivots, rows and free slots are
-- those of the image. All of the pool is free.
pub record IsInState {D M : Type 0} (is_known : D → Bool) (image : D → List ℕ) (v : StoreView D M) (s : State) : Type 0 where
  pub known : IsTrue (is_known v.pages.disk)
  pub stored : IsStored (image v.pages.disk) s
  pub profile_is : profile_in (page (image v.pages.disk) 1) ≡ Some v.profile
  pub pivots_are : s.pivots ≡ v.pivots
  pub rows_are : AreTablesOf s.cap (page (image v.pages.disk)) (slot_tables v.tables)
  pub free_are : AreFreeSlots s.cap (slot_at (page (image v.pages.disk))) v.slots.free
  pub pool_is : (n : ℕ) → is_among n v.pages.free ≡ in_pool v.pages n

-- ---- states

-- the state with the object under the key
abbrev pub with_member : State → ℕ → ℕ → List ℕ → State
with_member s c id object = record s { members = with_object s.members c id object }

-- the state without what is under the key
abbrev pub without_member : State → ℕ → ℕ → State
without_member s c id = record s { members = without_object s.members c id }
