use Rattle.tree_state.proofs.Cells.{cells_are_cells}
use Rattle.tree_state.proofs.laws.objects_have_cells.Goals as goal

pub returns : goal.returns
returns c = cells_are_cells
