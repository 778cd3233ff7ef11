use Rattle.slot_laws.specs.FreeSlotLaws.{free_slots_read_as_free}
use Rattle.slot_laws.proofs.change_laws.free_slots_read_as_free.Goals as goal

pub returns : goal.returns
returns c = free_slots_read_as_free
