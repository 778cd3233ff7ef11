use Rattle.std.proofs.Common.{◌≡◌, length, drop}
use Rattle.spb_edge.specs.Contents.{with_ranges_filled, ReachTo}
use Rattle.spb_edge.proofs.contents.Contents.filled.Given as goal

-- the ranges left, over the image so far, make the image that is wanted
abbrev pub invariant-loop-range : goal.invariant-loop-range
invariant-loop-range l =
    (with_ranges_filled l.byte l.image.items (drop l.range-index l.range-items) ≡ with_ranges_filled l.byte l.self.kept l.self.unsynced)
    × ReachTo (length l.image.items) (drop l.range-index l.range-items) (length l.self.image)
