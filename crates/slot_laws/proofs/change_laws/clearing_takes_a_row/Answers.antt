use Rattle.slot_laws.specs.SlotTableLaws.{clearing_takes_a_row}
use Rattle.slot_laws.proofs.change_laws.clearing_takes_a_row.Goals as goal

pub returns : goal.returns
returns c = clearing_takes_a_row
