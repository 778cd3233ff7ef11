use Rattle.curve_laws.specs.Vectors.{up_to_itself}
use Rattle.box_corner.proofs.rect.Rect.of.Goals as goal

pub invariant_of-result : goal.invariant_of-result
invariant_of-result c = up_to_itself c.args.v.now
