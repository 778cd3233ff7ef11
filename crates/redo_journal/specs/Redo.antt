-- What an image stands for: the pages that a recovery would leave in it.
use Rattle.std.specs.Prelude.{◌≡◌, ℕ, suc, ◌*◌, ◌<◌, ◌≤◌, Bool, false, IsTrue, if◌then◌else◌, ◌==◌, List, [], ◌∷◌, length, Option, Some, None}
use Rattle.std.specs.List.{list_any}
use Rattle.std.specs.Map.{lookup}
use Rattle.redo_journal.specs.Pages.{page, gate, magic, IsHome}
use Rattle.redo_journal.specs.declared.layout.TheConstants.{PAGE_SIZE, OPEN_GATE, HEADER_PAGE, FIRST_IMAGE, LEAST_PAGES}
use Rattle.redo_journal.specs.Header.{page_numbers, IsHeader}

-- whether the gate is open
abbrev pub has_open_gate : List ℕ → Bool
has_open_gate image = gate image == OPEN_GATE

-- the pages from place i on, with the numbers of those that they replace
abbrev pub entries_from : List ℕ → ℕ → List ℕ → List (ℕ × List ℕ)
entries_from image i [] = []
entries_from image i (n ∷ ns) = (n, page image i) ∷ entries_from image (suc i) ns

-- the journal: the images by its header
unfoldable pub journal_entries : List ℕ → List (ℕ × List ℕ)
journal_entries image = entries_from image FIRST_IMAGE (page_numbers (page image HEADER_PAGE))

-- pages with some replaced
abbrev pub page_or : Option (List ℕ) → List ℕ → List ℕ
page_or (Some new) old = new
page_or None old = old

abbrev pub overlay : List (ℕ × List ℕ) → (ℕ → List ℕ) → ℕ → List ℕ
overlay entries pages n = page_or (lookup (λ m. m == n) entries) (pages n)

-- page n as a recovery would leave it: if the gate is open, the journal's image of it replaces it
abbrev pub redo_page : List ℕ → ℕ → List ℕ
redo_page image n = if has_open_gate image then overlay (journal_entries image) (page image) n else page image n

-- The image has this many pages, those of the journal among them; if its gate is open, the header is in its ranges; and
-- it stands for this magic and these pages.
pub record RecoversTo (total : ℕ) (image marks : List ℕ) (home : ℕ → List ℕ) : Type 0 where
  pub least : LEAST_PAGES ≤ total
  pub size : length image ≡ PAGE_SIZE * total
  pub clean : IsTrue (has_open_gate image) → IsHeader total (page image HEADER_PAGE)
  pub marks_are : magic image ≡ marks
  pub pages_are : (n : ℕ) → IsHome total n → redo_page image n ≡ home n

-- whether a number is among those of a header
abbrev pub is_listed : ℕ → List ℕ → Bool
is_listed n numbers = list_any (λ m. m == n) numbers

-- the images differ at most within the pages of these numbers
pub record DiffersWithin (total : ℕ) (numbers : List ℕ) (old new : List ℕ) : Type 0 where
  pub size : length new ≡ length old
  pub pages_are : (n : ℕ) → n < total → is_listed n numbers ≡ false → page new n ≡ page old n
