use Rattle.tree_state.proofs.Starting.{empty-kept}
use Rattle.tree_state.proofs.laws.empty_trees_are_kept.Goals as goal

pub returns : goal.returns
returns c = empty-kept
