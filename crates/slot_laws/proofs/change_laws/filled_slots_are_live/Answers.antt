use Rattle.slot_laws.specs.FreeSlotLaws.{filled_slots_are_live}
use Rattle.slot_laws.proofs.change_laws.filled_slots_are_live.Goals as goal

pub returns : goal.returns
returns c = filled_slots_are_live
