use Rattle.std.proofs.Common.{rules, ◌≡◌, [], IsTrue, sym, ap, subst, ◌∙◌}
use Rattle.redo_journal.specs.Pages.{page}
use Rattle.redo_journal.specs.Redo.{has_open_gate}
use Rattle.object_file.specs.ObjectFile.{slot_at}
use Rattle.store_check.specs.Opened.{state_in}
use Rattle.std.specs.Prelude.{None}
use Rattle.open_store.specs.Store.{IsInState, store_of}
use Rattle.store_core.specs.Finish.{IsOpened, RefusesOpened}
use Rattle.store_core.specs.SlotContents.{HoldsTables, RefusesSlots}
use Rattle.store_core.proofs.OpenedImages.{slots_refused}
use Rattle.store_core.proofs.LoadedTables.{lists_refused}
use Rattle.store_core.proofs.PageSteps.{nothing_staged}
use Rattle.store_core.proofs.Loading.{disk_pages, store_is, in_state}
use Rattle.store_core.proofs.finish.load_objects.Goals as goal

pub returns-in_err-tables-clause-opens : goal.returns-in_err-tables-clause-opens
returns-in_err-tables-clause-opens g c = λ known empty opened.
    let image = g.D.Disk.image c.args.pages.now.disk in
    let profile = c.args.profile.now in
    let e = c.in_err-tables.field-0.0 in
    let none : c.args.pages.now.staged ≡ [] = ap (λ p. p.staged) c.requires.fresh in
    let bad : RefusesOpened e image =
    slots_refused image profile c.args.pivots.now opened c.requires.in_range empty e
    (disk_pages g.D.Disk.image c.args.pages.now (λ pages. RefusesSlots profile.space profile.cap (slot_at pages) e) none
    (c.in_err-tables.ensures.reads known profile.space c.requires.metric)) in
    search (rules, bad)

pub returns-in_err-lists-clause-opens : goal.returns-in_err-lists-clause-opens
returns-in_err-lists-clause-opens g c = λ known empty opened.
    let M = g.M.Metric in
    let image = g.D.Disk.image c.args.pages.now.disk in
    let profile = c.args.profile.now in
    let e = c.in_err-lists.field-0.0 in
    let given = c.in_ok-tables.field-0.tables in
    let free = c.in_ok-tables.field-0.free.items in
    let none : c.args.pages.now.staged ≡ [] = ap (λ p. p.staged) c.requires.fresh in
    let read : HoldsTables profile.space profile.cap (page image) given free =
    disk_pages g.D.Disk.image c.args.pages.now (λ pages. HoldsTables profile.space profile.cap pages given free) none
    (c.in_ok-tables.ensures.reads known profile.space c.requires.metric) in
    let bad : RefusesOpened e image =
    slots_refused image profile c.args.pivots.now opened c.requires.in_range empty e
    (lists_refused (M.admitted c.args.metric) (M.dist c.args.metric) c.args.pivots.now profile.space profile.cap (page image) given free
    c.in_ok-tables.ensures.tables read e c.in_err-lists.ensures) in
    search (rules, bad)

pub free_pool-requires-clause-shut : goal.free_pool-requires-clause-shut
free_pool-requires-clause-shut g c = record {
  shut = c.read_slots.ensures.continues.change ∙ ap (λ p. p.is_open) c.requires.fresh;
  sound = c.read_slots.ensures.continues.calmly.same_failed ∙ ap (λ p. p.failed) c.requires.fresh;
  none = nothing_staged c.args.pages.now.staged c.read_slots.new.pages.staged (ap (λ p. p.staged) c.requires.fresh) c.read_slots.ensures.put;
}

pub returns-clause-store : goal.returns-clause-store
returns-clause-store g c =
    let K = g.D.Disk in
    let M = g.M.Metric in
    let profile = c.args.profile.now in
    let calm = c.read_slots.ensures.continues.calmly in
    let same = c.free_pool.ensures.same in
    let before = g.met.D.Disk.quiet_is c.args.pages.now.disk c.read_slots.new.pages.disk calm.is_quiet in
    let after = g.met.D.Disk.quiet_is c.read_slots.new.pages.disk c.free_pool.new.pages.disk c.free_pool.ensures.quiet in
    store_is K.is_known K.image M.admitted M.dist c.free_pool.new.pages profile c.args.pivots.now c.args.metric c.in_ok-lists.lists c.in_ok-objects.objects
    c.in_ok-tables.field-0.tables c.in_ok-tables.field-0.free.items c.requires.in_range c.in_ok-tables.ensures.tables c.in_ok-lists.ensures
    (c.in_ok-objects.ensures ∙ ap (λ free. record { cap = profile.cap; free = free }) c.as_slice.ensures.value) c.requires.metric c.requires.count c.requires.pivots
    (same.same_total ∙ calm.same_total ∙ ap (λ p. p.total) c.requires.fresh)
    (same.same_first ∙ calm.same_first ∙ ap (λ p. p.first) c.requires.fresh)
    (same.same_count ∙ calm.same_count ∙ ap (λ p. p.count) c.requires.fresh) c.free_pool.ensures.shut
    (λ known.
    let known_mid : IsTrue (K.is_known c.read_slots.new.pages.disk) = subst IsTrue after.tells known in
    let known_old : IsTrue (K.is_known c.args.pages.now.disk) = subst IsTrue before.tells known_mid in
    ap has_open_gate (after.image_is known_mid ∙ before.image_is known_old) ∙ c.requires.closed known_old)

pub returns-clause-opens : goal.returns-clause-opens
returns-clause-opens g c = λ known empty opened.
    let K = g.D.Disk in
    let M = g.M.Metric in
    let profile = c.args.profile.now in
    let pivots = c.args.pivots.now in
    let given = c.in_ok-tables.field-0.tables in
    let free = c.in_ok-tables.field-0.free.items in
    let calm = c.read_slots.ensures.continues.calmly in
    let before = g.met.D.Disk.quiet_is c.args.pages.now.disk c.read_slots.new.pages.disk calm.is_quiet in
    let after = g.met.D.Disk.quiet_is c.read_slots.new.pages.disk c.free_pool.new.pages.disk c.free_pool.ensures.quiet in
    let known_mid : IsTrue (K.is_known c.read_slots.new.pages.disk) = subst IsTrue (sym before.tells) known in
    let known_new : IsTrue (K.is_known c.free_pool.new.pages.disk) = subst IsTrue (sym after.tells) known_mid in
    let image : K.image c.free_pool.new.pages.disk ≡ K.image c.args.pages.now.disk = after.image_is known_mid ∙ before.image_is known in
    let none : c.args.pages.now.staged ≡ [] = ap (λ p. p.staged) c.requires.fresh in
    let read : HoldsTables profile.space profile.cap (page (K.image c.args.pages.now.disk)) given free =
    disk_pages K.image c.args.pages.now (λ pages. HoldsTables profile.space profile.cap pages given free) none
    (c.in_ok-tables.ensures.reads known profile.space c.requires.metric) in
    subst (λ i. IsInState K.is_known K.image (store_of c.free_pool.new.pages c.in_ok-objects.objects c.in_ok-lists.lists pivots profile c.args.metric None)
    (state_in (page i) profile)) image
    (in_state K.is_known K.image M.admitted M.dist c.free_pool.new.pages profile pivots c.args.metric c.in_ok-lists.lists c.in_ok-objects.objects given free
    c.requires.in_range c.in_ok-tables.ensures.tables c.in_ok-lists.ensures
    (c.in_ok-objects.ensures ∙ ap (λ xs. record { cap = profile.cap; free = xs }) c.as_slice.ensures.value) known_new empty
    (subst (λ i. IsOpened i profile pivots) (sym image) opened) (subst (λ i. HoldsTables profile.space profile.cap (page i) given free) (sym image) read)
    c.free_pool.ensures.pool)
