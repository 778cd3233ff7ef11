-- An image as a row of pages.
use Rattle.std.specs.Prelude.{◌⊎◌, ℕ, ◌*◌, ◌<◌, ◌≤◌, List, take, drop, slice_index}
use Rattle.redo_journal.specs.declared.layout.TheConstants.{PAGE_SIZE, MAGIC_SIZE, GATE_AT, HEADER_PAGE, FIRST_HOME}

-- page n
unfoldable pub page : List ℕ → ℕ → List ℕ
page image n = take PAGE_SIZE (drop (PAGE_SIZE * n) image)

-- the gate: a byte of the mark page
unfoldable pub gate : List ℕ → ℕ
gate image = slice_index image GATE_AT

-- the magic: the first bytes of the mark page
unfoldable pub magic : List ℕ → List ℕ
magic image = take MAGIC_SIZE image

-- the pages that a change may replace: those before the journal but the mark page, and all after it
abbrev pub IsHome : ℕ → ℕ → Type 0
IsHome total n = ((1 ≤ n) × (n < HEADER_PAGE)) ⊎ ((FIRST_HOME ≤ n) × (n < total))
