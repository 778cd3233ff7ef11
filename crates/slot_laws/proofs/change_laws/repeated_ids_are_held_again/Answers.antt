use Rattle.slot_laws.specs.TableRows.{repeated_ids_are_held_again}
use Rattle.slot_laws.proofs.change_laws.repeated_ids_are_held_again.Goals as goal

pub returns : goal.returns
returns c = repeated_ids_are_held_again
