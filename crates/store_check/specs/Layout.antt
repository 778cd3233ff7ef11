-- How many pages a store's file has, by the greatest number of its objects.
use Rattle.std.specs.Prelude.{ℕ, ◌+◌, ◌-◌, ◌*◌, ◌/◌}
use Rattle.redo_journal.specs.declared.layout.TheConstants.{FIRST_HOME}
use Rattle.object_file.specs.declared.file.TheConstants.{SLOTS_PER_PAGE}

-- the pages of the slots: as many as four slots to a page ask for, the last one in part
abbrev pub slot_pages : ℕ → ℕ
slot_pages cap = (cap + (SLOTS_PER_PAGE - 1)) / SLOTS_PER_PAGE

-- the pages of the pool
abbrev pub pool_pages : ℕ → ℕ
pool_pages cap = 4 * (cap / 15 + 4) + 24

-- all pages: those up to the journal's last, those of the slots, and those of the pool
abbrev pub file_pages : ℕ → ℕ
file_pages cap = FIRST_HOME + slot_pages cap + pool_pages cap
