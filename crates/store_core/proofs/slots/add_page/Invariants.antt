use Rattle.store_core.specs.SlotContents.{HasTables}
use Rattle.store_core.proofs.PageSteps.{GoesOn}
use Rattle.store_core.proofs.slots.add_page.Given as goal

-- the slots so far are in the tables or free, and what was held of the slots before the page is held of them too
abbrev pub invariant-loop-slot : goal.invariant-loop-slot
invariant-loop-slot g l =
    let M = g.M.Metric in
    record {
      tables : HasTables (M.admitted l.metric) (M.dist l.metric) l.pivots l.slot l.contents.tables l.contents.free.items;
      reads : GoesOn (M.admitted l.metric) (M.dist l.metric) l.n l.page l.fn.contents.tables l.fn.contents.free.items l.slot l.contents.tables l.contents.free.items;
    }
