use Rattle.tree_state.proofs.Members.{one}
use Rattle.tree_state.proofs.laws.one_tree_state.Goals as goal

pub returns : goal.returns
returns c = one
