use Rattle.slot_laws.specs.ReadingLaws.{nothing_is_read, a_free_slot_is_read, a_filled_slot_is_read}
use Rattle.slot_laws.proofs.change_laws.slots_are_read_in_turn.Goals as goal

pub returns : goal.returns
returns c = record { first = nothing_is_read; free = a_free_slot_is_read; filled = a_filled_slot_is_read }
