use Rattle.std.proofs.Common.{◌≡◌, length, ◌+◌, ◌-◌, ◌*◌, ◌++◌, drop}
use Rattle.redo_journal.specs.Header.{numbers_in, page_numbers, AreHomes}
use Rattle.redo_journal.proofs.Headers.{last_of}
use Rattle.redo_journal.proofs.header.read_header.Given as goal

-- the numbers so far, with those that are left, are those of the header
abbrev pub invariant-loop-place : goal.invariant-loop-place
invariant-loop-place l =
    (length l.numbers.items ≡ l.place)
    × (l.numbers.items ++ numbers_in (l.count - l.place) (drop (8 + 4 * l.place) l.header) ≡ page_numbers l.header)
    × AreHomes l.total 0 l.numbers.items
    × (l.last ≡ last_of 0 l.numbers.items)
