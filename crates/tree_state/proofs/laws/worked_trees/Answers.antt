use Rattle.std.proofs.Common.{refl}
use Rattle.answer_lists.specs.Order.{sorted_by}
use Rattle.z_curve.specs.ZOrder.{z_key, low_bits}
use Rattle.tree_state.proofs.laws.worked_trees.Goals as goal

pub returns : goal.returns
unfolding sorted_by z_key low_bits
returns c = record {
  ids = refl;
  other_ids = refl;
  keys = refl;
  other_keys = refl;
  none = refl;
  curves = (refl, refl);
  pool = (refl, refl, refl, refl, refl);
}
