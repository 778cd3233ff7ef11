use Rattle.slot_laws.specs.SlotTableLaws.{rows_are_in_slots}
use Rattle.slot_laws.specs.TableRows.{row_is_in_slot, slot_at_place}
use Rattle.slot_laws.proofs.change_laws.rows_are_in_slots.Goals as goal

pub returns : goal.returns
returns c = record { all = rows_are_in_slots; one = row_is_in_slot; place = slot_at_place }
