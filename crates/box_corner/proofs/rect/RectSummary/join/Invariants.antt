use Rattle.std.proofs.Common.{◌≡◌, ◌+◌, ◌≤◌, ◌++◌, length, take}
use Rattle.curve_laws.specs.Vectors.{low_corner, high_corner}
use Rattle.box_corner.proofs.rect.RectSummary.join.Given as goal

-- the coordinates so far, and those of what is left, make the corners
abbrev pub invariant-loop-own_low : goal.invariant-loop-own_low
invariant-loop-own_low l =
    let least = l.own_low-iterator.a in
    let most = l.own_low-iterator.b in
    record {
      low_places : length l.low ≡ 8;
      high_places : length l.high ≡ 8;
      few : l.count + length least.a.rest.now ≤ 8;
      lows : length least.a.rest.now ≡ length least.b.rest.now;
      highs : length most.a.rest.now ≡ length most.b.rest.now;
      both : length least.a.rest.now ≡ length most.a.rest.now;
      low : take l.count l.low ++ low_corner least.a.rest.now least.b.rest.now ≡ low_corner l.fn.self.low l.fn.other.low;
      high : take l.count l.high ++ high_corner most.a.rest.now most.b.rest.now ≡ high_corner l.fn.self.high l.fn.other.high;
    }
