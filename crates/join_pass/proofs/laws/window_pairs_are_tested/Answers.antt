use Rattle.join_pass.proofs.Windows.{tested-is}
use Rattle.join_pass.proofs.laws.window_pairs_are_tested.Goals as goal

pub returns : goal.returns
returns c = tested-is c.windows_hold_all.ensures.added c.window_pairs_are_whole.ensures.next
