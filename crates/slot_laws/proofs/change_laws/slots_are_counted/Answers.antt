use Rattle.slot_laws.specs.FreeSlotLaws.{slots_are_counted}
use Rattle.slot_laws.proofs.change_laws.slots_are_counted.Goals as goal

pub returns : goal.returns
returns c = slots_are_counted
