use Rattle.slot_laws.specs.TableRows.{tables_in_another_order, ascending_ids_differ}
use Rattle.slot_laws.proofs.change_laws.tables_are_sorted.Goals as goal

pub returns : goal.returns
returns c = record { order = tables_in_another_order; ids = ascending_ids_differ }
