use Rattle.slot_laws.specs.SlotTableLaws.{read_slots_are_members}
use Rattle.slot_laws.proofs.change_laws.read_slots_are_members.Goals as goal

pub returns : goal.returns
returns c = read_slots_are_members
