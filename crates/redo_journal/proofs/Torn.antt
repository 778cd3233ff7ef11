-- What writes leave of the pages of an image, whatever they answer.
use Rattle.std.proofs.Common.{◌≡◌, inl, inr, ℕ, ◌*◌, ◌≤◌, false, List, length, ◌∙◌, arith}
use Rattle.spb_edge.specs.Crash.{IsTornWrite}
use Rattle.redo_journal.specs.Pages.{page, IsHome}
use Rattle.redo_journal.specs.Redo.{is_listed, DiffersWithin}
use Rattle.redo_journal.proofs.Pages.{torn_size, torn_page}
use Rattle.redo_journal.proofs.Home.{home_within, home_positive}

-- a write of the journal, or of the gate, leaves the pages that a change may replace
pub journal_torn : (total count : ℕ) (old new : List ℕ) → 85 ≤ total → length old ≡ 512 * total → count ≤ 512 * 81 → IsTornWrite 2048 count old new
    → (n : ℕ) → IsHome total n → page new n ≡ page old n
journal_torn total count old new least size few torn n (inl low) =
    torn_page 2048 count old new torn n (omega (arith, size, least, low)) (inl (omega (arith, low)))
journal_torn total count old new least size few torn n (inr high) =
    torn_page 2048 count old new torn n (omega (arith, size, least, high)) (inr (omega (arith, high, few)))

pub gate_only : (total : ℕ) (old new : List ℕ) → 85 ≤ total → length old ≡ 512 * total → IsTornWrite 16 1 old new
    → (n : ℕ) → IsHome total n → page new n ≡ page old n
gate_only total old new least size torn n home =
    torn_page 16 1 old new torn n (omega (arith, size, home_within total n least home)) (inr (omega (arith, home_positive total n home)))

-- the pages of a change go home, and then the gate is closed
pub others_stay : (total : ℕ) (numbers start mid new : List ℕ) → 85 ≤ total → length start ≡ 512 * total → DiffersWithin total numbers start mid
    → IsTornWrite 16 1 mid new → (n : ℕ) → IsHome total n → is_listed n numbers ≡ false → page new n ≡ page start n
others_stay total numbers start mid new least size differs torn n home free =
    gate_only total mid new least (differs.size ∙ size) torn n home ∙ differs.pages_are n (home_within total n least home) free
