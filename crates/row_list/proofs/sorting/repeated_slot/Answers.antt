use Rattle.std.proofs.Common.{rules, ◌≡◌, ◌<◌, Some, length, get_or}
use Rattle.row_list.specs.Slotted.{id_of}
use Rattle.row_list.proofs.SortedRows.{repeat_found}
use Rattle.row_list.proofs.sorting.repeated_slot.Goals as goal

pub returns-then-eq : goal.returns-then-eq
returns-then-eq c =
    let below : c.loop-row.row-index < length c.args.rows.now = search rules in
    let is : c.row-item.result ≡ get_or c.args.rows.now c.loop-row.row-index c.row-item.result = search rules in
    let same : c.loop-row.last ≡ Some (id_of c.row-item.result) = search rules in
    repeat_found c.args.rows.now c.loop-row.row-index c.loop-row.last c.row-item.result c.loop-row.invariant below is same
