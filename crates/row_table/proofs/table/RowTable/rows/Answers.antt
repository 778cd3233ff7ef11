use Rattle.std.proofs.Common.{subst}
use Rattle.row_table.specs.Tables.{HasDistinctIds}
use Rattle.row_table.proofs.Indexing.{distinct}
use Rattle.row_table.proofs.table.RowTable.rows.Goals as goal

pub returns-clause-ids : goal.returns-clause-ids
returns-clause-ids c = subst HasDistinctIds c.self.view_is (distinct c.self.inside.rows.items _ c.self.invariant)
