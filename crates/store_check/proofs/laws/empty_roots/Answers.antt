use Rattle.store_check.proofs.EmptyRoots.{to_all, from_all}
use Rattle.store_check.proofs.laws.empty_roots.Goals as goal

pub returns : goal.returns
returns c = λ roots. (to_all roots, from_all roots)
