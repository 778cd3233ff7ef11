use Rattle.std.proofs.Common.{◌≡◌, ℕ, ◌+◌, ◌<◌, length}
use Rattle.redo_journal.specs.Pages.{page}
use Rattle.store_format.specs.NewFile.{new_page}
use Rattle.store_format.proofs.new_file.lay_pages.Given as goal

-- the first i pages of the bytes are as wanted
abbrev pub invariant-loop-i : goal.invariant-loop-i
invariant-loop-i l = record {
  placed : (j : ℕ) → j < l.i → page l.bytes j ≡ new_page l.file (l.first + j);
  long : length l.bytes ≡ length l.initial.bytes;
}
