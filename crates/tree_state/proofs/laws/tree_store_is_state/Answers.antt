use Rattle.tree_state.proofs.Members.{is_state}
use Rattle.tree_state.proofs.laws.tree_store_is_state.Goals as goal

pub returns : goal.returns
returns c = is_state
