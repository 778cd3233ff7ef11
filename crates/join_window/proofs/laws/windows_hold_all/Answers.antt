use Rattle.join_window.proofs.Holding.{holds-added}
use Rattle.join_window.proofs.laws.windows_hold_all.Goals as goal

pub returns-clause-added : goal.returns-clause-added
returns-clause-added c = holds-added
