use Rattle.store_check.proofs.Standing.{moved}
use Rattle.store_check.proofs.laws.keeps_moved.Goals as goal

pub returns : goal.returns
returns c = moved
