use Rattle.slot_laws.specs.ChangeLaws.{filling_adds}
use Rattle.slot_laws.proofs.change_laws.filling_adds.Goals as goal

pub returns : goal.returns
returns c = filling_adds
