use Rattle.image_laws.proofs.Whole.{trees-hold}
use Rattle.image_laws.proofs.laws.matched_trees_hold.Goals as goal

pub returns : goal.returns
returns c = trees-hold
