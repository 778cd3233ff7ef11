-- What a journal is, by what it keeps and by the disk that it was made with.
use Rattle.std.specs.Prelude.{◌≡◌, ℕ, ◌*◌, ◌≤◌, List}
use Rattle.redo_journal.specs.declared.layout.TheConstants.{PAGE_SIZE, LEAST_PAGES}
use Rattle.redo_journal.specs.declared.journal.Journal.{Journal}

module _ {D : Type 0} where
  -- the disk as it is now
  abbrev pub disk_of : Journal D → D
  disk_of journal = journal.disk.now

  -- how many pages the file has
  abbrev pub total_of : Journal D → ℕ
  total_of journal = journal.staged.total

  -- the pages that are staged, in ascending order of their numbers
  abbrev pub staged_of : Journal D → List (ℕ × List ℕ)
  staged_of journal = journal.staged.pages

  -- the disk holds as many whole pages, those of the journal among them
  pub record HasPages (size_of : D → ℕ) (journal : Journal D) : Type 0 where
    pub size : size_of (disk_of journal) ≡ PAGE_SIZE * total_of journal
    pub least : LEAST_PAGES ≤ total_of journal
