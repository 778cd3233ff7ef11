use Rattle.slot_laws.specs.TableRows.{gains_row, loses_row}
use Rattle.slot_laws.proofs.change_laws.tables_are_replaced.Goals as goal

pub returns : goal.returns
returns c = record { gains = gains_row; loses = loses_row }
