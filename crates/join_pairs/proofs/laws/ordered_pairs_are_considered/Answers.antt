use Rattle.join_pairs.proofs.Ordered.{considered-ordered}
use Rattle.join_pairs.proofs.laws.ordered_pairs_are_considered.Goals as goal

pub returns : goal.returns
returns c = considered-ordered
