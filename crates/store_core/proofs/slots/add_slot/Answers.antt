use Rattle.std.proofs.Common.{◌+◌, sym, subst}
use Rattle.object_file.specs.Slots.{Free, Holds}
use Rattle.slot_laws.specs.SlotTableLaws.{slots_are_of_collections}
use Rattle.store_core.specs.SlotContents.{HasTables, HoldsTables}
use Rattle.store_core.proofs.SlotSteps.{free_tables, free_read, object_tables, object_read, page_slot}
use Rattle.store_core.proofs.slots.add_slot.Goals as goal

pub add_object-requires-clause-collection : goal.add_object-requires-clause-collection
add_object-requires-clause-collection g c =
    slots_are_of_collections (λ _. c.args.page.now) c.args.slot c.in-Filled.head.collection c.in-Filled.head.id c.in-Filled.object.now c.in-Filled.ensures

pub returns-in_ok-add_free-in-Free-clause-tables : goal.returns-in_ok-add_free-in-Free-clause-tables
returns-in_ok-add_free-in-Free-clause-tables g c =
    subst (HasTables (g.M.Metric.admitted c.args.metric) (g.M.Metric.dist c.args.metric) c.args.pivots.now (c.args.slot + 1) c.args.contents.now.tables)
    (sym c.in_ok-add_free-in-Free.ensures)
    (free_tables (g.M.Metric.admitted c.args.metric) (g.M.Metric.dist c.args.metric) c.args.pivots.now c.args.slot c.args.contents.now.tables
    c.args.contents.now.free.items c.requires.tables)

pub returns-in_ok-add_free-in-Free-clause-reads : goal.returns-in_ok-add_free-in-Free-clause-reads
returns-in_ok-add_free-in-Free-clause-reads g c = λ space cap pages metric below at holds.
    subst (HoldsTables space (c.args.slot + 1) pages c.args.contents.now.tables) (sym c.in_ok-add_free-in-Free.ensures)
    (free_read space c.args.slot pages c.args.contents.now.tables c.args.contents.now.free.items holds
    (page_slot pages c.args.slot c.args.page.now Free at c.in-Free.ensures))

pub returns-in-Filled-clause-tables : goal.returns-in-Filled-clause-tables
returns-in-Filled-clause-tables g c =
    object_tables (g.M.Metric.admitted c.args.metric) (g.M.Metric.dist c.args.metric) c.args.pivots.now c.args.slot c.in-Filled.head.collection c.in-Filled.head.id
    c.in-Filled.object.now c.args.contents.now.tables c.add_object.new.tables c.args.contents.now.free.items
    (slots_are_of_collections (λ _. c.args.page.now) c.args.slot c.in-Filled.head.collection c.in-Filled.head.id c.in-Filled.object.now c.in-Filled.ensures)
    c.requires.tables c.add_object.result c.add_object.ensures

pub returns-in-Filled-clause-reads : goal.returns-in-Filled-clause-reads
returns-in-Filled-clause-reads g c = λ space cap pages metric below at holds.
    object_read (g.M.Metric.admitted c.args.metric) (g.M.Metric.dist c.args.metric) c.args.pivots.now c.args.slot c.in-Filled.head.collection c.in-Filled.head.id
    c.in-Filled.object.now c.args.contents.now.tables c.add_object.new.tables c.args.contents.now.free.items
    (slots_are_of_collections (λ _. c.args.page.now) c.args.slot c.in-Filled.head.collection c.in-Filled.head.id c.in-Filled.object.now c.in-Filled.ensures)
    c.requires.tables space cap pages c.add_object.result c.add_object.ensures metric below
    (page_slot pages c.args.slot c.args.page.now (Holds c.in-Filled.head.collection c.in-Filled.head.id c.in-Filled.object.now) at c.in-Filled.ensures) holds
