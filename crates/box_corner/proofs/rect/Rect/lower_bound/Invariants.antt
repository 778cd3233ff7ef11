use Rattle.std.proofs.Common.{◌≡◌, length, max}
use Rattle.box_corner.specs.Boxes.{box_bound}
use Rattle.box_corner.proofs.rect.Rect.lower_bound.Given as goal

-- the greatest so far, and those of what is left, make the bound
abbrev pub invariant-loop-asked : goal.invariant-loop-asked
invariant-loop-asked l = record {
  lows : length l.asked-iterator.a.rest.now ≡ length l.asked-iterator.b.a.rest.now;
  highs : length l.asked-iterator.a.rest.now ≡ length l.asked-iterator.b.b.rest.now;
  bound : max l.most (box_bound l.asked-iterator.a.rest.now (record { low = l.asked-iterator.b.a.rest.now; high = l.asked-iterator.b.b.rest.now }))
      ≡ box_bound l.fn.q l.fn.self;
}
