-- What the pages of a new file hold.
use Rattle.std.specs.Prelude.{◌≡◌, ℕ, ◌+◌, ◌*◌, ◌<◌, ◌≤◌, ◌==◌, nat_le, nat_lt, ◌&&◌, if◌then◌else◌, List, [], length, replicate, slice_index, slice_index_or, Some}
use Rattle.redo_journal.specs.Pages.{page, gate}
use Rattle.redo_journal.specs.declared.layout.TheConstants.{PAGE_SIZE, FIRST_HOME, CLOSED_GATE}
use Rattle.object_file.specs.Slots.{Free, slot_in}
use Rattle.store_check.specs.declared.profile.Profile.{Profile}
use Rattle.store_check.specs.Layout.{slot_pages, file_pages}
use Rattle.store_check.specs.Profile.{profile_in}
use Rattle.store_check.specs.Pivots.{pivot_in}
use Rattle.store_format.specs.declared.new_file.NewFile.{NewFile}

-- a page of zeros
unfoldable pub zero_page : List ℕ
zero_page = replicate PAGE_SIZE 0

-- page n, before the magic is written
unfoldable pub new_page : NewFile → ℕ → List ℕ
new_page file n =
    if n == 1 then file.profile
    else if n == 2 then file.first_pivots
    else if n == 3 then file.last_pivots
    else if nat_le FIRST_HOME n && nat_lt n file.pool_start then file.free_slots
    else zero_page

-- the file is that of an empty store with this profile and these pivots
pub record IsFileOf (profile : Profile) (pivots : List (List ℕ)) (file : NewFile) : Type 0 where
  pub profile_is : profile_in file.profile ≡ Some profile
  pub first_are : (place : ℕ) → place < 4 → pivot_in file.first_pivots place ≡ Some (slice_index_or pivots place [])
  pub last_are : (place : ℕ) → place < 4 → pivot_in file.last_pivots place ≡ Some (slice_index_or pivots (4 + place) [])
  pub slots_are : (place : ℕ) → place < 4 → slot_in file.free_slots place ≡ Free
  pub pool : file.pool_start ≡ FIRST_HOME + slot_pages profile.cap
  pub total : file.total ≡ file_pages profile.cap

-- the image is the first pages of the file, before the magic is written
pub record HasPages (count : ℕ) (file : NewFile) (image : List ℕ) : Type 0 where
  pub size : length image ≡ PAGE_SIZE * count
  pub pages_are : (n : ℕ) → n < count → page image n ≡ new_page file n

-- the image is all pages of the file but for the magic, with a closed gate
pub record IsFilled (file : NewFile) (image : List ℕ) : Type 0 where
  pub size : length image ≡ PAGE_SIZE * file.total
  pub closed : gate image ≡ CLOSED_GATE
  pub pages_are : (n : ℕ) → 1 ≤ n → n < file.total → page image n ≡ new_page file n

-- the image begins with a zero byte, and so without the magic
abbrev pub IsUnsigned : List ℕ → Type 0
IsUnsigned image = (0 < length image) × (slice_index image 0 ≡ 0)

-- what a stop leaves while a file is made: at most one page, an image without the magic, or one that lacks nothing but
-- the magic or a part of it
pub data IsUnderWay (file : NewFile) (image : List ℕ) : Type 0 where
  IsShort : length image ≤ PAGE_SIZE → IsUnderWay file image
  Lacks : IsUnsigned image → IsUnderWay file image
  Fills : IsFilled file image → IsUnderWay file image
