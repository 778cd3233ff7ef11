use Rattle.slot_laws.specs.UnchangedSlots.{same_slots_hold_the_same, same_slots_have_the_same_tables, same_slots_are_free}
use Rattle.slot_laws.proofs.change_laws.same_slots_hold_the_same.Goals as goal

pub returns : goal.returns
returns c = record { members = same_slots_hold_the_same; tables = same_slots_have_the_same_tables; free = same_slots_are_free }
