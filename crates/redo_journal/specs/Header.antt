-- The journal's header page: how many images there are, and which pages they replace.
use Rattle.std.specs.Prelude.{◌≡◌, ℕ, zero, suc, ◌-◌, ◌*◌, ◌<◌, ◌≤◌, List, [], ◌∷◌, ◌++◌, length, drop, replicate}
use Rattle.std.specs.List.{flat_map}
use Rattle.byteorder.specs.Endian.{big_number, big_bytes}
use Rattle.redo_journal.specs.Pages.{IsHome}
use Rattle.redo_journal.specs.declared.layout.TheConstants.{PAGE_SIZE, CHANGE_LIMIT, NUMBERS_AT}
use Rattle.redo_journal.specs.declared.errors.Field.{Field}
use Rattle.redo_journal.specs.declared.errors.Field.TheVariants.{Count, Page}

-- the number in the first four bytes, the highest byte first
unfoldable pub leading_number : List ℕ → ℕ
leading_number bytes = big_number 4 bytes

-- the four bytes of a number, the highest first
unfoldable pub number_bytes : ℕ → List ℕ
number_bytes n = big_bytes 4 n

-- the number of images
abbrev pub image_count : List ℕ → ℕ
image_count header = leading_number header

-- this many numbers of four bytes each, the highest byte first
abbrev pub numbers_in : ℕ → List ℕ → List ℕ
numbers_in zero bytes = []
numbers_in (suc n) bytes = leading_number bytes ∷ numbers_in n (drop 4 bytes)

-- the numbers of the pages
unfoldable pub page_numbers : List ℕ → List ℕ
page_numbers header = numbers_in (image_count header) (drop NUMBERS_AT header)

-- the bytes of a header: the count, four zero bytes, the numbers, and zeros to the page's end
unfoldable pub header_page : List ℕ → List ℕ
header_page numbers = number_bytes (length numbers)
    ++ (replicate 4 0 ++ (flat_map number_bytes numbers ++ replicate (PAGE_SIZE - NUMBERS_AT - 4 * length numbers) 0))

-- a count in its range
abbrev pub IsCount : ℕ → Type 0
IsCount count = (1 ≤ count) × (count ≤ CHANGE_LIMIT)

-- numbers in their ranges: pages that a change may replace, strictly ascending, all after the last one
abbrev pub AreHomes : ℕ → ℕ → List ℕ → Type 0
AreHomes total last [] = Unit {0}
AreHomes total last (n ∷ ns) = IsHome total n × (last < n) × AreHomes total n ns

-- the header is in its ranges
pub record IsHeader (total : ℕ) (header : List ℕ) : Type 0 where
  pub count : IsCount (image_count header)
  pub homes : AreHomes total 0 (page_numbers header)

-- the number at this place is the first that isn't in its range
abbrev pub FailsAt : ℕ → ℕ → List ℕ → ℕ → ℕ → Type 0
FailsAt total last [] place number = ⊥
FailsAt total last (n ∷ ns) zero number = (number ≡ n) × (IsHome total n → last < n → ⊥)
FailsAt total last (n ∷ ns) (suc place) number = IsHome total n × (last < n) × FailsAt total n ns place number

-- the field is the first of the header that isn't in its range
abbrev pub IsFirstBad : ℕ → List ℕ → Field → Type 0
IsFirstBad total header (Count count) = (count ≡ image_count header) × (IsCount count → ⊥)
IsFirstBad total header (Page place number) = IsCount (image_count header) × FailsAt total 0 (page_numbers header) place number
