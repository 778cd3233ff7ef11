use Rattle.slot_laws.specs.ReadingLaws.{slots_are_read, read_ids_differ}
use Rattle.slot_laws.proofs.change_laws.slots_are_read.Goals as goal

pub returns : goal.returns
returns c = record { members = slots_are_read; ids = read_ids_differ }
