-- What is noted of slots.
use Rattle.std.specs.Prelude.{◌≡◌, ℕ, ◌*◌, ◌^◌, ◌<◌, List, length, min, All, slice_index_or}
use Rattle.metric_laws.specs.Objects.{Object, Distance}
use Rattle.metrics_builtin.specs.declared.Space.{Space}
use Rattle.metrics_builtin.specs.Space.{IsValid}
use Rattle.object_file.specs.declared.slots.TheConstants.{COLLECTIONS}
use Rattle.object_file.specs.declared.file.TheConstants.{SLOTS_PER_PAGE}
use Rattle.object_file.specs.Slots.{Slot, Free, Holds}
use Rattle.object_file.specs.ObjectFile.{slot_at}
use Rattle.spb_defs.specs.MetricOf.{IsMetricOf}
use Rattle.store_check.specs.declared.profile.Profile.{Profile}
use Rattle.store_check.specs.Profile.{IsInRange}
use Rattle.store_check.specs.Stands.{IsReadable}
use Rattle.tree_state.specs.StoreCurves.{IsCurveOf, object_key}
use Rattle.slot_notes.specs.declared.notes.SlotNote.{SlotNote}
use Rattle.slot_notes.specs.declared.notes.SlotNote.TheVariants as note

-- a profile in its ranges, and its metric, its curve and its pivots
pub record AreOfProfile (admitted : Object → Type 0) (distance : Distance) (axes bits : ℕ) (key_of : List ℕ → ℕ) (cell_of : ℕ → List ℕ) (profile : Profile)
    (pivots : List Object) : Type 0 where
  pub in_range : IsInRange profile
  pub metric : IsMetricOf admitted distance profile.space
  pub curve : IsCurveOf axes bits key_of cell_of profile
  pub count : length pivots ≡ profile.pivots
  pub objects : All admitted pivots

-- the note is that of a slot of a space whose objects have these keys
abbrev pub IsNoteOf : Space → (Object → ℕ) → SlotNote → Slot → Type 0
IsNoteOf space key_of note.Free slot = slot ≡ Free
IsNoteOf space key_of (note.Filled collection id key) slot =
    (object : Object) × ((slot ≡ Holds collection id object) × ((id < 2 ^ 32) × IsValid space object) × (key ≡ key_of object))
IsNoteOf space key_of note.Broken slot = IsReadable space slot → ⊥

-- it names one of the collections
abbrev pub HasCollection : SlotNote → Type 0
HasCollection note.Free = Unit {0}
HasCollection (note.Filled collection id key) = collection < COLLECTIONS
HasCollection note.Broken = Unit {0}

-- the notes are those of the first slots of a store's pages
pub record AreNotes (profile : Profile) (pivots : List Object) (home : ℕ → List ℕ) (count : ℕ) (notes : List SlotNote) : Type 0 where
  pub count_is : length notes ≡ count
  pub each : (slot : ℕ) (d : SlotNote) → slot < count → IsNoteOf profile.space (object_key profile pivots) (slice_index_or notes slot d) (slot_at home slot)

-- how many slots there are below a cap on so many pages
abbrev pub slots_on : ℕ → ℕ → ℕ
slots_on cap pages = min cap (SLOTS_PER_PAGE * pages)
