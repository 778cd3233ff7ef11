use Rattle.tree_state.specs.StoreCurves.{AreCurveCorners, AreIdCorners}
use Rattle.tree_state.proofs.Starting.{leaf-tree, leaf-holds}
use Rattle.tree_state.proofs.laws.one_leaf_is_a_tree.Goals as goal

pub returns : goal.returns
returns c = record { curve = λ profile. leaf-tree (AreCurveCorners profile); ids = leaf-tree AreIdCorners; holds = leaf-holds }
