use Rattle.image_faults.proofs.Standing.{held-unbroken}
use Rattle.image_faults.proofs.laws.held_trees_break_no_rule.Goals as goal

pub returns : goal.returns
returns c = held-unbroken
