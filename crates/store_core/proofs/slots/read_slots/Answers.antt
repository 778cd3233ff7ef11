use Rattle.std.proofs.Common.{rules, ◌≡◌, ◌+◌, ◌<◌, ◌≤◌, ◌∷◌, [], IsTrue, refl, sym, ap, subst, ◌∙◌, arith}
use Rattle.object_file.specs.ObjectFile.{slot_at}
use Rattle.store_check.specs.Layout.{slot_pages}
use Rattle.store_core.specs.SlotContents.{HasTables, HoldsTables, RefusesSlots, slots_before}
use Rattle.store_core.proofs.SlotSteps.{no_tables, none_read}
use Rattle.store_core.proofs.PageSteps.{whole_pages, all_pages, no_pages, page_there}
use Rattle.store_core.proofs.slots.read_slots.Goals as goal

pub loop-n-init : goal.loop-n-init
loop-n-init g c =
    let M = g.M.Metric in
    let tables = c.new.result ∷ c.new-2.result ∷ c.new-3.result ∷ c.new-4.result ∷ [] in
    let none : tables ≡ [] ∷ [] ∷ [] ∷ [] ∷ [] =
    ap (λ a. a ∷ c.new-2.result ∷ c.new-3.result ∷ c.new-4.result ∷ []) c.new.ensures
    ∙ ap (λ a. [] ∷ a ∷ c.new-3.result ∷ c.new-4.result ∷ []) c.new-2.ensures
    ∙ ap (λ a. [] ∷ [] ∷ a ∷ c.new-4.result ∷ []) c.new-3.ensures
    ∙ ap (λ a. [] ∷ [] ∷ [] ∷ a ∷ []) c.new-4.ensures in
    record {
      tables = subst (HasTables (M.admitted c.args.metric) (M.dist c.args.metric) c.args.pivots.now (slots_before c.args.cap 0) tables) (sym c.new-5.ensures.items)
          (subst (λ n. HasTables (M.admitted c.args.metric) (M.dist c.args.metric) c.args.pivots.now n tables []) (sym (no_pages c.args.cap))
          (no_tables (M.admitted c.args.metric) (M.dist c.args.metric) c.args.pivots.now tables none));
      reads = λ known space metric.
          subst (HoldsTables space (slots_before c.args.cap 0) (g.P.Pages.page_at c.args.pages.now) tables) (sym c.new-5.ensures.items)
          (subst (λ n. HoldsTables space n (g.P.Pages.page_at c.args.pages.now) tables []) (sym (no_pages c.args.cap))
          (none_read space (g.P.Pages.page_at c.args.pages.now) tables none));
      continues = record { told = refl; map = refl; pool = refl; free_pages = refl; change = refl; calmly = g.met.P.Pages.calm_same c.args.pages.now };
      same = λ known. refl;
      put = refl;
      later = omega arith;
    }

pub get-requires : goal.get-requires
get-requires g c =
    let below : c.loop-n.n < slot_pages c.args.cap = search rules in
    record {
      there = subst (λ has. IsTrue (has (85 + c.loop-n.n))) (sym c.loop-n.invariant.continues.map)
          (page_there (g.P.Pages.has c.args.pages.now) c.args.cap c.loop-n.n c.requires.there below);
    }

pub returns-in_err-add_page-clause-reads : goal.returns-in_err-add_page-clause-reads
returns-in_err-add_page-clause-reads g c = λ known space metric.
    let P = g.P.Pages in
    let below : c.loop-n.n < slot_pages c.args.cap = search rules in
    let pages = P.page_at c.args.pages.now in
    let so_far = c.loop-n.invariant in
    let at : pages (85 + c.loop-n.n) ≡ c.get.new.into =
    sym (c.in_default.ensures.data (subst IsTrue (sym so_far.continues.told) known) ∙ ap (λ p. p (85 + c.loop-n.n)) (so_far.same known)) in
    let bad : RefusesSlots space c.args.cap (slot_at pages) c.in_err-add_page.field-0.0 =
    c.in_err-add_page.ensures.reads space pages metric at
    (subst (λ n. HoldsTables space n pages c.loop-n.contents.tables c.loop-n.contents.free.items) (whole_pages c.args.cap c.loop-n.n below)
    (so_far.reads known space metric)) in
    search (rules, bad)

pub loop-n-preserved : goal.loop-n-preserved
loop-n-preserved g c =
    let P = g.P.Pages in
    let below : c.loop-n.n < slot_pages c.args.cap = search rules in
    let pages = P.page_at c.args.pages.now in
    let so_far = c.loop-n.invariant in
    let is = c.get.ensures in
    record {
      tables = c.in_ok-add_page.ensures.tables;
      reads = λ known space metric.
          c.in_ok-add_page.ensures.reads space pages metric
          (sym (c.in_default.ensures.data (subst IsTrue (sym so_far.continues.told) known) ∙ ap (λ p. p (85 + c.loop-n.n)) (so_far.same known)))
          (subst (λ n. HoldsTables space n pages c.loop-n.contents.tables c.loop-n.contents.free.items) (whole_pages c.args.cap c.loop-n.n below)
          (so_far.reads known space metric));
      continues = record {
        told = is.told ∙ so_far.continues.told;
        map = is.map.0 ∙ so_far.continues.map;
        pool = is.map.1 ∙ so_far.continues.pool;
        free_pages = is.free.0 ∙ so_far.continues.free_pages;
        change = is.open.0 ∙ so_far.continues.change;
        calmly = g.met.P.Pages.calm_chains c.args.pages.now c.loop-n.pages c.get.new.self so_far.continues.calmly is.calm;
      };
      same = λ known. is.pages (subst IsTrue (sym so_far.continues.told) known) ∙ so_far.same known;
      put = is.open.1 ∙ so_far.put;
      later =
          let before = so_far.later in
          let after : P.faults c.loop-n.pages ≤ P.faults c.get.new.self = c.in_default.ensures.fault in
          omega (arith, before, after);
    }

pub returns-clause-reads : goal.returns-clause-reads
returns-clause-reads g c = λ known space metric.
    let end : slot_pages c.args.cap ≤ c.loop-n.n = search rules in
    subst (λ n. HoldsTables space n (g.P.Pages.page_at c.args.pages.now) c.loop-n.contents.tables c.loop-n.contents.free.items)
    (all_pages c.args.cap c.loop-n.n end) (c.loop-n.invariant.reads known space metric)
