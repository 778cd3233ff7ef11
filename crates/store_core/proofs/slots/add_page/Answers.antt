use Rattle.std.proofs.Common.{rules, ◌≡◌, ◌+◌, ◌*◌, ◌<◌, ◌≤◌, subst, arith}
use Rattle.std.specs.Prelude.{min}
use Rattle.object_file.specs.ObjectFile.{slot_at}
use Rattle.store_core.specs.SlotContents.{HasTables, HoldsTables, RefusesSlots}
use Rattle.store_core.proofs.PageSteps.{goes_on, stops, last_is}
use Rattle.store_core.proofs.slots.add_page.Goals as goal

pub returns-in_err-add_slot-clause-reads : goal.returns-in_err-add_slot-clause-reads
returns-in_err-add_slot-clause-reads g c = λ space pages metric at holds.
    let least : 4 * c.args.n ≤ c.loop-slot.slot = search rules in
    let end : c.loop-slot.slot < min c.args.cap (4 * c.args.n + 4) = search rules in
    let bad : RefusesSlots space c.args.cap (slot_at pages) c.in_err-add_slot.field-0.0 =
    stops (g.M.Metric.admitted c.args.metric) (g.M.Metric.dist c.args.metric) c.args.n c.args.cap c.loop-slot.slot c.args.page.now c.args.contents.now.tables
    c.loop-slot.contents.tables c.add_slot.new.contents.tables c.args.contents.now.free.items c.loop-slot.contents.free.items
    c.add_slot.new.contents.free.items c.in_err-add_slot.field-0.0 c.loop-slot.invariant.reads least (omega (arith, end)) (omega (arith, end))
    c.in_err-add_slot.ensures.reads space pages metric at holds in
    search (rules, bad)

pub loop-slot-preserved : goal.loop-slot-preserved
loop-slot-preserved g c =
    let least : 4 * c.args.n ≤ c.loop-slot.slot = search rules in
    let end : c.loop-slot.slot < min c.args.cap (4 * c.args.n + 4) = search rules in
    record {
      tables = c.in_ok-add_slot.ensures.tables;
      reads = goes_on (g.M.Metric.admitted c.args.metric) (g.M.Metric.dist c.args.metric) c.args.n c.args.cap c.loop-slot.slot c.args.page.now c.args.contents.now.tables
          c.loop-slot.contents.tables c.add_slot.new.contents.tables c.args.contents.now.free.items c.loop-slot.contents.free.items
          c.add_slot.new.contents.free.items c.loop-slot.invariant.reads least (omega (arith, end)) (omega (arith, end)) c.in_ok-add_slot.ensures.reads;
    }

pub returns-clause-tables : goal.returns-clause-tables
returns-clause-tables g c =
    let end : c.loop-slot.slot ≡ min c.args.cap (4 * c.args.n + 4) = search rules in
    subst (λ n. HasTables (g.M.Metric.admitted c.args.metric) (g.M.Metric.dist c.args.metric) c.args.pivots.now n c.loop-slot.contents.tables c.loop-slot.contents.free.items)
    (last_is c.args.cap c.args.n c.loop-slot.slot end) c.loop-slot.invariant.tables

pub returns-clause-reads : goal.returns-clause-reads
returns-clause-reads g c = λ space pages metric at holds.
    let end : c.loop-slot.slot ≡ min c.args.cap (4 * c.args.n + 4) = search rules in
    subst (λ n. HoldsTables space n pages c.loop-slot.contents.tables c.loop-slot.contents.free.items)
    (last_is c.args.cap c.args.n c.loop-slot.slot end) (c.loop-slot.invariant.reads space pages metric at holds)
