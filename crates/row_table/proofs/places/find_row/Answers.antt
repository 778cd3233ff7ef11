use Rattle.std.proofs.Common.{sym}
use Rattle.std.specs.BTreeMap.{get}
use Rattle.std.specs.Ordering.{nat_cmp}
use Rattle.row_table.proofs.Indexing.{lent, missing}
use Rattle.row_table.proofs.places.find_row.Goals as goal

pub returns-in-Some : goal.returns-in-Some
returns-in-Some c = lent c.args.rows.now (get nat_cmp c.args.index.now) c.requires c.args.id _ (sym c.in-Some.ensures.value) _ c.get-in-Some.ensures.lookup

pub returns-in-None : goal.returns-in-None
returns-in-None c = sym (missing c.args.rows.now (get nat_cmp c.args.index.now) c.requires c.args.id (sym c.in-None.ensures.value))
