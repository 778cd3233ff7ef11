-- How many pages an image has, if it may be that of a store.
use Rattle.std.specs.Prelude.{◌≡◌, ◌≢◌, ◌⊎◌, ℕ, ◌*◌, ◌<◌, ◌≤◌, List, length, Result, Ok, Err}
use Rattle.redo_journal.specs.declared.layout.TheConstants.{PAGE_SIZE, LEAST_PAGES}
use Rattle.redo_journal.specs.Pages.{magic}
use Rattle.page_laws.specs.declared.rule.Rule.TheVariants as rule
use Rattle.store_check.specs.declared.layout.TheConstants.{LEAST_SIZE}
use Rattle.store_check.specs.Stands.{IsPaged, store_magic}
use Rattle.store_check.specs.Damage.{IsMarked, IsNotPaged}
use Rattle.store_core.specs.declared.errors.OpenError.{OpenError}
use Rattle.store_core.specs.declared.errors.OpenError.TheVariants as refusal

-- so many bytes are this many pages, those up to the journal's last among them
abbrev pub ArePages : ℕ → ℕ → Type 0
ArePages size pages = (size ≡ PAGE_SIZE * pages) × (LEAST_PAGES ≤ pages)

-- the image is too short, or has another magic
abbrev pub IsUnmarked : List ℕ → Type 0
IsUnmarked image = (length image < LEAST_SIZE) ⊎ (magic image ≢ store_magic)

-- what a look at the size and the magic answers
abbrev pub FindsMarked : Result Unit OpenError → List ℕ → Type 0
FindsMarked (Ok _) image = IsMarked image
FindsMarked (Err refusal.NotStore) image = IsUnmarked image
FindsMarked (Err (refusal.Damaged page broken)) image = ⊥
FindsMarked (Err refusal.DiskFault) image = Unit {0}
FindsMarked (Err refusal.Memory) image = ⊥

-- what a counting of the pages answers
abbrev pub Counts : Result ℕ OpenError → List ℕ → Type 0
Counts (Ok pages) image = IsPaged pages image × IsMarked image
Counts (Err refusal.NotStore) image = IsUnmarked image
Counts (Err (refusal.Damaged page broken)) image = (page ≡ 0) × (broken ≡ rule.Size) × IsNotPaged image
Counts (Err refusal.DiskFault) image = Unit {0}
Counts (Err refusal.Memory) image = ⊥
