use Rattle.slot_laws.specs.ChangeLaws.{slots_give_objects}
use Rattle.slot_laws.proofs.change_laws.slots_give_objects.Goals as goal

pub returns : goal.returns
returns c = slots_give_objects
