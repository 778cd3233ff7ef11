-- The rules of a store's file that an image breaks, in the order of the opening: each rule speaks of images that pass the
-- steps before it.
use Rattle.std.specs.Prelude.{◌≡◌, ◌≢◌, ◌⊎◌, ℕ, ◌+◌, ◌/◌, ◌<◌, ◌≤◌, true, false, IsTrue, List, [], length, Option, Some, None}
use Rattle.metrics_builtin.specs.declared.Space.{Space}
use Rattle.metrics_builtin.specs.Space.{IsValid}
use Rattle.redo_journal.specs.declared.layout.TheConstants.{HEADER_PAGE}
use Rattle.redo_journal.specs.Pages.{page, magic}
use Rattle.redo_journal.specs.Header.{IsHeader}
use Rattle.redo_journal.specs.Redo.{has_open_gate, redo_page}
use Rattle.page_laws.specs.declared.rule.Rule.{Rule}
use Rattle.page_laws.specs.declared.rule.Rule.TheVariants as rule
use Rattle.object_file.specs.Slots.{Slot, Holds}
use Rattle.object_file.specs.ObjectFile.{slot_page, slot_at}
use Rattle.store_check.specs.declared.layout.TheConstants.{LEAST_SIZE}
use Rattle.store_check.specs.declared.profile.Profile.{Profile}
use Rattle.store_check.specs.Layout.{file_pages}
use Rattle.store_check.specs.Profile.{format_in, is_format, profile_in}
use Rattle.store_check.specs.Pivots.{pivot_at}
use Rattle.store_check.specs.Stands.{IsReadable, are_empty, store_magic, IsPaged, IsClean}

-- ---- what an image passes

-- it is long enough and has the magic
pub record IsMarked (image : List ℕ) : Type 0 where
  pub long : LEAST_SIZE ≤ length image
  pub marks_are : magic image ≡ store_magic

-- a recovery would leave the profile page with this profile
pub record HasProfile (pages : ℕ) (image : List ℕ) (profile : Profile) : Type 0 where
  pub marked : IsMarked image
  pub paged : IsPaged pages image
  pub clean : IsClean pages image
  pub reads : profile_in (redo_page image 1) ≡ Some profile

-- the record of place i reads, as an object of the space if there are so many pivots, and else as no bytes
abbrev pub IsPivot : Space → ℕ → ℕ → Option (List ℕ) → Type 0
IsPivot space pivots i None = ⊥
IsPivot space pivots i (Some object) = (i < pivots → IsValid space object) × (pivots ≤ i → object ≡ [])

-- the same of the records of a recovery
abbrev pub HasPivot : List ℕ → Profile → ℕ → Type 0
HasPivot image profile i = IsPivot profile.space profile.pivots i (pivot_at (redo_page image) i)

-- the length is that of the profile's cap, and all records of pivots read
pub record HasGoodPivots (image : List ℕ) (profile : Profile) : Type 0 where
  pub fits : HasProfile (file_pages profile.cap) image profile
  pub each : (i : ℕ) → i < 8 → HasPivot image profile i

-- ---- what an image breaks

-- it isn't pages that a number of 32 bits counts, those up to the journal's last among them
pub record IsNotPaged (image : List ℕ) : Type 0 where
  pub marked : IsMarked image
  pub never : (pages : ℕ) → IsPaged pages image → ⊥

-- the length isn't that of the profile's cap
pub record HasOtherLength (image : List ℕ) : Type 0 where
  pub pages : ℕ
  pub profile : Profile
  pub has : HasProfile pages image profile
  pub other : pages ≢ file_pages profile.cap

-- the gate is open over a header that isn't in its ranges
pub record HasBadJournal (image : List ℕ) : Type 0 where
  pub pages : ℕ
  pub marked : IsMarked image
  pub paged : IsPaged pages image
  pub opened : IsTrue (has_open_gate image)
  pub header : IsHeader pages (page image HEADER_PAGE) → ⊥

-- the format is known, and a field of the profile page isn't in its range
pub record HasBadProfile (image : List ℕ) : Type 0 where
  pub pages : ℕ
  pub marked : IsMarked image
  pub paged : IsPaged pages image
  pub clean : IsClean pages image
  pub format : is_format (format_in (redo_page image 1)) ≡ true
  pub field : profile_in (redo_page image 1) ≡ None

-- a record of pivots on this page doesn't read, or not as what belongs there
pub record HasBadPivot (image : List ℕ) (n : ℕ) : Type 0 where
  pub profile : Profile
  pub fits : HasProfile (file_pages profile.cap) image profile
  pub place : ℕ
  pub below : place < 8
  pub page_is : n ≡ 2 + place / 4
  pub bad : HasPivot image profile place → ⊥

-- a tree isn't empty
pub record HasTree (image : List ℕ) : Type 0 where
  pub profile : Profile
  pub good : HasGoodPivots image profile
  pub filled : are_empty profile.roots ≡ false

-- the slot holds a collection and an id that a lower one holds
pub record HoldsAgain (slots : ℕ → Slot) (slot : ℕ) : Type 0 where
  pub lower : ℕ
  pub less : lower < slot
  pub collection : ℕ
  pub id : ℕ
  pub first : List ℕ
  pub second : List ℕ
  pub at_lower : slots lower ≡ Holds collection id first
  pub at_slot : slots slot ≡ Holds collection id second

-- a slot of this page isn't readable, or holds what a lower one holds
pub record HasBadSlot (image : List ℕ) (n : ℕ) : Type 0 where
  pub profile : Profile
  pub good : HasGoodPivots image profile
  pub empty : IsTrue (are_empty profile.roots)
  pub slot : ℕ
  pub below : slot < profile.cap
  pub page_is : n ≡ slot_page slot
  pub bad : (IsReadable profile.space (slot_at (redo_page image) slot) → ⊥) ⊎ HoldsAgain (slot_at (redo_page image)) slot

-- the image breaks the rule, and the page is named for it
abbrev pub Breaks : List ℕ → ℕ → Rule → Type 0
Breaks image n rule.Size = (n ≡ 0) × (IsNotPaged image ⊎ HasOtherLength image)
Breaks image n rule.Journal = (n ≡ HEADER_PAGE) × HasBadJournal image
Breaks image n rule.Profile = (n ≡ 1) × HasBadProfile image
Breaks image n rule.Pivot = HasBadPivot image n
Breaks image n rule.Page = (n ≡ 1) × HasTree image
Breaks image n rule.Node = ⊥
Breaks image n rule.Fill = ⊥
Breaks image n rule.Order = ⊥
Breaks image n rule.Key = ⊥
Breaks image n rule.Box = ⊥
Breaks image n rule.Slot = HasBadSlot image n
Breaks image n rule.Match = ⊥
