use Rattle.slot_laws.specs.SlotTableLaws.{filling_adds_a_row}
use Rattle.slot_laws.proofs.change_laws.filling_adds_a_row.Goals as goal

pub returns : goal.returns
returns c = filling_adds_a_row
