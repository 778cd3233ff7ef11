-- A change in progress: the pages that are staged, and how they are laid out in the journal.
use Rattle.std.specs.Prelude.{◌≡◌, ◌⊎◌, ℕ, ◌+◌, ◌*◌, ◌<◌, ◌≤◌, Bool, true, false, IsTrue, if◌then◌else◌, List, [], ◌∷◌, length, take, drop, slice_index, ◌==◌, None, IsSome, Result, Ok, Err}
use Rattle.std.specs.List.{flat_map}
use Rattle.std.specs.Map.{lookup, keys_of}
use Rattle.std.specs.BTreeMap.{insert_entry}
use Rattle.std.specs.Ordering.{nat_cmp}
use Rattle.spb_edge.specs.Fault.{HasRisen}
use Rattle.redo_journal.specs.declared.errors.StageError.{StageError}
use Rattle.redo_journal.specs.declared.errors.RecoverError.{RecoverError}
use Rattle.redo_journal.specs.declared.errors.RecoverError.TheVariants as recover
use Rattle.redo_journal.specs.Pages.{page, gate}
use Rattle.redo_journal.specs.declared.layout.TheConstants.{PAGE_SIZE, CHANGE_LIMIT, GATE_AT, CLOSED_GATE, HEADER_PAGE}
use Rattle.redo_journal.specs.Header.{header_page, AreHomes, IsHeader, IsFirstBad}
use Rattle.redo_journal.specs.Redo.{has_open_gate, journal_entries, redo_page, RecoversTo, overlay}

-- the pages of a change by their numbers: bytes one after another, a page each
abbrev pub page_entries : ℕ → List ℕ → List ℕ → List (ℕ × List ℕ)
page_entries size [] bytes = []
page_entries size (n ∷ ns) bytes = (n, take size bytes) ∷ page_entries size ns (drop size bytes)

-- each page is whole
abbrev pub ArePages : List (ℕ × List ℕ) → Type 0
ArePages [] = Unit {0}
ArePages (e ∷ es) = (length e.1 ≡ PAGE_SIZE) × ArePages es

-- the images of a change, one after another
abbrev pub joined_images : List (ℕ × List ℕ) → List ℕ
joined_images entries = flat_map (λ (e : ℕ × List ℕ). e.1) entries

-- the pages with one more, or with another in the place of the one with its number
abbrev pub with_page : List (ℕ × List ℕ) → ℕ → List ℕ → List (ℕ × List ℕ)
with_page entries n page = insert_entry nat_cmp entries n page

-- the numbers are homes and rise; each has its page after the header's, and there is room for all
pub record IsStaged (total : ℕ) (numbers body : List ℕ) (capacity : ℕ) : Type 0 where
  pub small : total < 4294967296
  pub homes : AreHomes total 0 numbers
  pub few : length numbers ≤ CHANGE_LIMIT
  pub long : length body ≡ PAGE_SIZE * (1 + length numbers)
  pub room : PAGE_SIZE * (1 + CHANGE_LIMIT) ≤ capacity

-- the numbers don't fall
abbrev pub IsNonDecreasing : List ℕ → Type 0
IsNonDecreasing numbers = (i j : ℕ) → i ≤ j → j < length numbers → slice_index numbers i ≤ slice_index numbers j

-- the number is at this place
abbrev pub IsPlaceOf : List ℕ → ℕ → ℕ → Type 0
IsPlaceOf numbers n place = (place < length numbers) × (slice_index numbers place ≡ n)

-- the number is absent, and belongs before this place
abbrev pub IsBetween : List ℕ → ℕ → ℕ → Type 0
IsBetween numbers n place = (place ≤ length numbers) × ((k : ℕ) → k < place → slice_index numbers k < n)
    × ((k : ℕ) → place ≤ k → k < length numbers → n < slice_index numbers k)

-- a change in progress: of a file of this many pages, its header's page, and its pages by their numbers
pub record StagedPages : Type 0 where
  pub total : ℕ
  pub header : List ℕ
  pub pages : List (ℕ × List ℕ)

-- A page replaces the one with its number, or is added; it is refused if a change may have no more, and then nothing
-- changes.
abbrev pub Stages : Result Unit StageError → List (ℕ × List ℕ) → ℕ → List ℕ → List (ℕ × List ℕ) → Type 0
Stages (Ok _) old n page new = (new ≡ with_page old n page) × ((length old < CHANGE_LIMIT) ⊎ IsSome (lookup (λ m. m == n) old))
Stages (Err _) old n page new = (new ≡ old) × (length old ≡ CHANGE_LIMIT) × (lookup (λ m. m == n) old ≡ None)

-- what holds of every change in progress: as many whole pages as one may have or fewer, and their
-- numbers are homes and rise
pub record IsChange (staged : StagedPages) : Type 0 where
  pub few : length staged.pages ≤ CHANGE_LIMIT
  pub homes : AreHomes staged.total 0 (keys_of staged.pages)
  pub whole : ArePages staged.pages
  pub small : staged.total < 4294967296

-- the journal holds the change, and its gate is open
pub record HoldsChange (entries : List (ℕ × List ℕ)) (image : List ℕ) : Type 0 where
  pub is_opened : has_open_gate image ≡ true
  pub journal_is : journal_entries image ≡ entries

-- each page of a change is in its place
abbrev pub AreInPlace : List (ℕ × List ℕ) → List ℕ → Type 0
AreInPlace [] image = Unit {0}
AreInPlace (e ∷ es) image = (page image e.0 ≡ e.1) × AreInPlace es image

-- the image as a recovery leaves it: an open gate is closed, the rest of the mark page is the same, and each
-- other page is as redone
pub record IsRedone (total : ℕ) (old new : List ℕ) : Type 0 where
  pub size : length new ≡ length old
  pub gate_is : gate new ≡ (if has_open_gate old then CLOSED_GATE else gate old)
  pub mark_is : (k : ℕ) → k < PAGE_SIZE → (k ≡ GATE_AT → ⊥) → slice_index new k ≡ slice_index old k
  pub pages_are : (n : ℕ) → 0 < n → n < total → page new n ≡ redo_page old n

-- a commit that succeeded: the journal holds the change, and whatever the image stood for, it now
-- stands for the pages with the change
pub record Commits (total : ℕ) (entries : List (ℕ × List ℕ)) (old new : List ℕ) : Type 0 where
  pub holds : HoldsChange entries new
  pub header_is : page new HEADER_PAGE ≡ header_page (keys_of entries)
  pub stands : (marks : List ℕ) (home : ℕ → List ℕ) → RecoversTo total old marks home → has_open_gate old ≡ false
      → RecoversTo total new marks (overlay entries home)

-- an image that stands for the pages without a change or with all of it
abbrev pub IsBeforeOrAfter : ℕ → List (ℕ × List ℕ) → List ℕ → (ℕ → List ℕ) → List ℕ → Type 0
IsBeforeOrAfter total entries marks home image = RecoversTo total image marks home ⊎ RecoversTo total image marks (overlay entries home)

-- what a reading of the gate, the header and the images found: a change or none, or a header whose first
-- field out of its range is named
abbrev pub ReadsChange : ℕ → Result Bool RecoverError → List ℕ → List (ℕ × List ℕ) → Type 0
ReadsChange total (Ok false) image pages = (has_open_gate image ≡ false) × (pages ≡ [])
ReadsChange total (Ok true) image pages = (has_open_gate image ≡ true) × IsHeader total (page image HEADER_PAGE) × (pages ≡ journal_entries image)
ReadsChange total (Err recover.DiskFault) image pages = Unit {0}
ReadsChange total (Err (recover.BadHeader field)) image pages = (has_open_gate image ≡ true) × IsFirstBad total (page image HEADER_PAGE) field

-- what a recovery leaves: the image as redone, or as it was if the gate is open over a header whose first field out of
-- its range is named
abbrev pub Recovers : ℕ → Result Unit RecoverError → List ℕ → List ℕ → Type 0
Recovers total (Ok _) old new = (IsTrue (has_open_gate old) → IsHeader total (page old HEADER_PAGE)) × IsRedone total old new
Recovers total (Err recover.DiskFault) old new = Unit {0}
Recovers total (Err (recover.BadHeader field)) old new = (has_open_gate old ≡ true) × IsFirstBad total (page old HEADER_PAGE) field × (new ≡ old)

-- something holds if the answer is BadHeader
abbrev pub OnBadHeader : Result Unit RecoverError → Type 0 → Type 0
OnBadHeader (Ok _) P = Unit {0}
OnBadHeader (Err recover.DiskFault) P = Unit {0}
OnBadHeader (Err (recover.BadHeader field)) P = P

-- a fault is answered only if it was counted
abbrev pub CountsRecoverFault : {A : Type 0} → Result A RecoverError → ℕ → ℕ → Type 0
CountsRecoverFault (Ok _) before now = before ≤ now
CountsRecoverFault (Err recover.DiskFault) before now = (before ≤ now) × HasRisen before now
CountsRecoverFault (Err (recover.BadHeader field)) before now = before ≤ now
