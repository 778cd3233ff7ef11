use Rattle.image_laws.proofs.Kept.{held-kept}
use Rattle.image_laws.proofs.laws.held_trees_are_kept.Goals as goal

pub returns : goal.returns
returns c = held-kept
