use Rattle.std.proofs.Common.{◌≡◌, length, Some, sym, subst, rules}
use Rattle.std.specs.BTreeMap.{get}
use Rattle.std.specs.Ordering.{nat_cmp}
use Rattle.row_table.specs.Tables.{ids_of}
use Rattle.row_table.specs.Places.{IsIndexed}
use Rattle.row_table.proofs.Indexing.{puts, pushed, same_entries}
use Rattle.row_table.proofs.places.insert_row.Goals as goal

pub returns-in_err-insert-clause-indexed : goal.returns-in_err-insert-clause-indexed
returns-in_err-insert-clause-indexed c =
    subst (λ rows. IsIndexed (get nat_cmp c.insert.new.self) (ids_of rows)) (sym c.reserve.ensures.items)
    (same_entries c.args.index.now c.insert.new.self _ c.in_err-insert.ensures.err c.requires.indexed)

pub returns-clause-indexed : goal.returns-clause-indexed
returns-clause-indexed c =
    let rows = c.args.rows.now.items in
    let count : c.len.result ≡ length rows = search rules in
    let put = puts c.args.index.now c.insert.new.self c.args.row.id (Some c.len.result) c.in_ok-insert.ensures.updates in
    subst (λ rows. IsIndexed (get nat_cmp c.insert.new.self) (ids_of rows)) (sym (search rules))
    (pushed rows c.args.row (get nat_cmp c.args.index.now) (get nat_cmp c.insert.new.self) c.len.result c.requires.indexed c.requires.new count put)
