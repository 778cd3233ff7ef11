use Rattle.image_laws.proofs.Matched.{matched-hold}
use Rattle.image_laws.proofs.laws.checked_trees_hold.Goals as goal

pub returns : goal.returns
returns c = matched-hold
