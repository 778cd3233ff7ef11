use Rattle.slot_laws.specs.SlotTableLaws.{tables_give_members, table_ids_differ}
use Rattle.slot_laws.specs.TableRows.{tables_find_objects}
use Rattle.slot_laws.proofs.change_laws.tables_give_members.Goals as goal

pub returns : goal.returns
returns c = record { members = tables_give_members; ids = table_ids_differ; objects = tables_find_objects }
