use Rattle.std.proofs.Common.{◌≡◌, arith, rules}
use Rattle.curve_laws.specs.Vectors.{low_corner, high_corner}
use Rattle.box_corner.proofs.Corners.{joining, corners_ordered}
use Rattle.box_corner.proofs.rect.RectSummary.join.Goals as goal

pub loop-own_low-preserved : goal.loop-own_low-preserved
loop-own_low-preserved c = record {
  low_places = search rules;
  high_places = search rules;
  few = search rules;
  lows = search rules;
  highs = search rules;
  both = search rules;
  low = grind (arith, joining);
  high = grind (arith, joining);
}

pub invariant_of-result : goal.invariant_of-result
invariant_of-result c =
    let low : c.of.result ≡ low_corner c.args.self.now.low c.args.other.now.low = grind (arith, joining) in
    let high : c.of-2.result ≡ high_corner c.args.self.now.high c.args.other.now.high = grind (arith, joining) in
    search (rules, corners_ordered)
