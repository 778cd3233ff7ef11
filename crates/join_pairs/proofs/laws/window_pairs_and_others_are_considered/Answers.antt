use Rattle.join_pairs.proofs.Windows.{windows-considered}
use Rattle.join_pairs.proofs.laws.window_pairs_and_others_are_considered.Goals as goal

pub returns : goal.returns
returns c = λ entries row named. windows-considered row named c.window_pairs_are_whole.ensures.parted entries
