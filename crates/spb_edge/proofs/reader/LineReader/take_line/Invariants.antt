use Rattle.std.proofs.Common.{◌≡◌, ℕ, ◌-◌, ◌^◌, List}
use Rattle.spb_edge.specs.Reader.{taken}
use Rattle.spb_edge.proofs.Reading.{InLine}
use Rattle.spb_edge.proofs.reader.LineReader.take_line.Given as goal

-- the bytes taken off so far are the beginning of one line
abbrev pub invariant-loop-ended : goal.invariant-loop-ended
invariant-loop-ended g l =
    (l.self.source.ghost_name ≡ l.initial.self.source.ghost_name)
    × ((front : List ℕ) × InLine l.limit l.initial.self l.self l.line front)

abbrev pub decreases-loop-ended : goal.decreases-loop-ended
decreases-loop-ended g l = 2 ^ 30 - taken l.self
