use Rattle.tree_state.proofs.Moving.{moved}
use Rattle.tree_state.proofs.laws.trees_kept_moved.Goals as goal

pub returns : goal.returns
returns c = moved
