use Rattle.std.proofs.Common.{◌≡◌, ◌≤◌, IsTrue}
use Rattle.metrics_builtin.specs.declared.Space.{Space}
use Rattle.spb_defs.specs.MetricOf.{IsMetricOf}
use Rattle.page_laws.specs.Calls.{PagesContinue}
use Rattle.store_core.specs.SlotContents.{HasTables, HoldsTables, slots_before}
use Rattle.store_core.proofs.slots.read_slots.Given as goal

-- the slots of the pages so far are read, and the pages are as they were
abbrev pub invariant-loop-n : goal.invariant-loop-n
invariant-loop-n g l =
    let P = g.P.Pages in
    let M = g.M.Metric in
    record {
      tables : HasTables (M.admitted l.metric) (M.dist l.metric) l.pivots (slots_before l.cap l.n) l.contents.tables l.contents.free.items;
      reads : IsTrue (P.is_known l.fn.pages) → (space : Space) → IsMetricOf (M.admitted l.metric) (M.dist l.metric) space
          → HoldsTables space (slots_before l.cap l.n) (P.page_at l.fn.pages) l.contents.tables l.contents.free.items;
      continues : PagesContinue P.is_known P.has P.in_pool P.free P.is_open P.calm l.fn.pages l.pages;
      same : IsTrue (P.is_known l.fn.pages) → P.page_at l.pages ≡ P.page_at l.fn.pages;
      put : P.put_pages l.pages ≡ P.put_pages l.fn.pages;
      later : P.faults l.fn.pages ≤ P.faults l.pages;
    }
