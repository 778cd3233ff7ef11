use Rattle.image_laws.proofs.Kept.{kept-held}
use Rattle.image_laws.proofs.laws.kept_trees_are_held.Goals as goal

pub returns : goal.returns
returns c = kept-held
