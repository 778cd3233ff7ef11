use Rattle.slot_laws.specs.SlotTableLaws.{slots_are_of_collections}
use Rattle.slot_laws.proofs.change_laws.slots_are_of_collections.Goals as goal

pub returns : goal.returns
returns c = slots_are_of_collections
