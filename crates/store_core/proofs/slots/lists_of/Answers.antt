use Rattle.std.proofs.Common.{rules, ◌≡◌, ◌∙◌, ◌<◌, [], arith}
use Rattle.open_store.specs.Store.{table_at}
use Rattle.store_core.specs.SlotContents.{IsListOf}
use Rattle.std.proofs.lemmas.List.{get_or_default}
use Rattle.store_core.proofs.SlotLists.{more_lists}
use Rattle.store_core.proofs.slots.lists_of.Goals as goal

pub loop-c-preserved : goal.loop-c-preserved
loop-c-preserved c =
    let below : c.loop-c.c < 4 = search rules in
    let is : c.replace-table.result ≡ table_at c.loop-c.tables c.loop-c.c = c.replace-table.ensures.value ∙ get_or_default c.loop-c.tables c.loop-c.c c.index-tables-c.result [] (let four = c.loop-c.invariant.four_tables in omega (arith, four, below)) in
    let listed : IsListOf c.replace-table.result c.in_ok-lists.field-0 = search rules in
    more_lists c.loop-c.c c.args.tables c.loop-c.tables c.loop-c.lists c.in_ok-lists.field-0 _ c.replace-table.result below c.loop-c.invariant is listed
