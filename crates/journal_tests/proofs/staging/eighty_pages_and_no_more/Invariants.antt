use Rattle.std.proofs.Common.{◌≡◌, length}
use Rattle.redo_journal.specs.Journal.{disk_of, total_of}
use Rattle.journal_tests.proofs.staging.eighty_pages_and_no_more.Given as goal

-- the file keeps its pages
abbrev pub invariant-loop-n : goal.invariant-loop-n
invariant-loop-n g l = (total_of l.journal ≡ 166) × (length (disk_of l.journal).bytes ≡ 84992)
