use Rattle.tree_state.proofs.Cells.{curve_on}
use Rattle.tree_state.proofs.laws.store_curves_are_curves.Goals as goal

pub returns : goal.returns
returns c = curve_on
