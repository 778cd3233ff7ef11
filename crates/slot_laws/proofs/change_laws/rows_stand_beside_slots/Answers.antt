use Rattle.slot_laws.specs.TableRows.{entries_of-zip, zip-insert, zip-remove}
use Rattle.slot_laws.proofs.change_laws.rows_stand_beside_slots.Goals as goal

pub returns : goal.returns
returns c = record { rows = entries_of-zip; insert = zip-insert; remove = zip-remove }
