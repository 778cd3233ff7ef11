use Rattle.slot_laws.specs.FreeSlotLaws.{clearing_frees_a_slot}
use Rattle.slot_laws.proofs.change_laws.clearing_frees_a_slot.Goals as goal

pub returns : goal.returns
returns c = clearing_frees_a_slot
