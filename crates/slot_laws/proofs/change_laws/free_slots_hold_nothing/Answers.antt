use Rattle.slot_laws.specs.UnchangedSlots.{free_slots_hold_nothing, free_slots_have_no_rows, all_slots_are_free}
use Rattle.slot_laws.proofs.change_laws.free_slots_hold_nothing.Goals as goal

pub returns : goal.returns
returns c = record { members = free_slots_hold_nothing; tables = free_slots_have_no_rows; free = all_slots_are_free }
