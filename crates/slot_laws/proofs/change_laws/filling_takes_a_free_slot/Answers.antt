use Rattle.slot_laws.specs.FreeSlotLaws.{filling_takes_a_free_slot}
use Rattle.slot_laws.proofs.change_laws.filling_takes_a_free_slot.Goals as goal

pub returns : goal.returns
returns c = filling_takes_a_free_slot
