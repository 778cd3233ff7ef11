use Rattle.std.proofs.Common.{◌≡◌, length, take}
use Rattle.join_window.specs.Corners.{upper_corner}
use Rattle.join_window.proofs.corner.upper_corner.Given as goal

-- the coordinates so far are raised
abbrev pub invariant-loop-coordinate : goal.invariant-loop-coordinate
invariant-loop-coordinate l =
    (l.known ≡ l.coordinate-index) × (length l.at ≡ 8) × (take l.known l.at ≡ upper_corner l.curve.b l.r (take l.coordinate-index l.fn.cell))
