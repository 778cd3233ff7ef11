use Rattle.std.proofs.Common.{◌≡◌, IsTrue, sym, ap, subst, ◌∙◌}
use Rattle.page_store.specs.PageStore.{PagesView}
use Rattle.object_file.specs.Slots.{Holds}
use Rattle.open_store.proofs.SlotRuns.{set_or_not, set_now, filled_or_not}
use Rattle.open_store.proofs.slot_change.fill_slot.Goals as goal

pub returns-in_err-commit-clause-any_moment : goal.returns-in_err-commit-clause-any_moment
returns-in_err-commit-clause-any_moment g c = λ known crashes durable marks stands.
    let K = g.D.Disk in
    let L = g.met.D.Disk in
    let old = c.args.pages.now in
    let start = c.begin.new.self in
    let mid = c.slot_put.new.pages in
    let slot = c.in_ok-slot.slot in
    let content = Holds c.args.head.collection c.args.head.id c.args.object.now in
    let same : start.disk ≡ old.disk = ap (λ (p : PagesView g.row.D.Denot). p.disk) c.begin.ensures.begun in
    let quiet = L.quiet_is old.disk mid.disk (L.quiet_chains old.disk start.disk mid.disk c.begin.ensures.calm.is_quiet c.slot_put.ensures.continues.calmly.is_quiet) in
    filled_or_not K.is_known K.knows_crashes K.size_of K.image K.crash_states K.moment K.crash_states_since L.only_now old.disk c.commit.new.self.disk
    old.total slot content c.args.objects.now.free c.slot_put.new.self.free marks c.in_ok-slot.ensures.taken.1
    (set_or_not K.is_known K.knows_crashes K.size_of K.image K.crash_states K.moment K.crash_states_since L.only_now old.disk mid.disk c.commit.new.self.disk
    old.total mid.total slot content start.staged mid.staged (K.image start.disk)
    (c.slot_put.ensures.continues.calmly.same_total ∙ c.begin.ensures.calm.same_total) quiet c.commit.ensures.any_moment c.begin.ensures.none
    (λ _. ap K.image same) (λ is. c.in_ok-slot.ensures.slot (subst IsTrue (sym (ap K.is_known same)) is)) c.requires.closed known crashes durable marks stands)

pub returns-clause-any_moment : goal.returns-clause-any_moment
returns-clause-any_moment g c = λ known crashes durable marks stands.
    let K = g.D.Disk in
    let L = g.met.D.Disk in
    let old = c.args.pages.now in
    let start = c.begin.new.self in
    let mid = c.slot_put.new.pages in
    let slot = c.in_ok-slot.slot in
    let content = Holds c.args.head.collection c.args.head.id c.args.object.now in
    let same : start.disk ≡ old.disk = ap (λ (p : PagesView g.row.D.Denot). p.disk) c.begin.ensures.begun in
    let quiet = L.quiet_is old.disk mid.disk (L.quiet_chains old.disk start.disk mid.disk c.begin.ensures.calm.is_quiet c.slot_put.ensures.continues.calmly.is_quiet) in
    filled_or_not K.is_known K.knows_crashes K.size_of K.image K.crash_states K.moment K.crash_states_since L.only_now old.disk c.commit.new.self.disk
    old.total slot content c.args.objects.now.free c.slot_put.new.self.free marks c.in_ok-slot.ensures.taken.1
    (set_or_not K.is_known K.knows_crashes K.size_of K.image K.crash_states K.moment K.crash_states_since L.only_now old.disk mid.disk c.commit.new.self.disk
    old.total mid.total slot content start.staged mid.staged (K.image start.disk)
    (c.slot_put.ensures.continues.calmly.same_total ∙ c.begin.ensures.calm.same_total) quiet c.commit.ensures.any_moment c.begin.ensures.none
    (λ _. ap K.image same) (λ is. c.in_ok-slot.ensures.slot (subst IsTrue (sym (ap K.is_known same)) is)) c.requires.closed known crashes durable marks stands)

pub returns-clause-sets : goal.returns-clause-sets
returns-clause-sets g c =
    let K = g.D.Disk in
    let L = g.met.D.Disk in
    let old = c.args.pages.now in
    let start = c.begin.new.self in
    let mid = c.slot_put.new.pages in
    let same : start.disk ≡ old.disk = ap (λ (p : PagesView g.row.D.Denot). p.disk) c.begin.ensures.begun in
    let quiet = L.quiet_is old.disk mid.disk (L.quiet_chains old.disk start.disk mid.disk c.begin.ensures.calm.is_quiet c.slot_put.ensures.continues.calmly.is_quiet) in
    set_now K.is_known K.knows_crashes K.size_of K.image K.crash_states K.moment K.crash_states_since L.only_now old.disk mid.disk c.commit.new.self.disk
    old.total mid.total c.in_ok-slot.slot (Holds c.args.head.collection c.args.head.id c.args.object.now) start.staged mid.staged (K.image start.disk)
    (c.slot_put.ensures.continues.calmly.same_total ∙ c.begin.ensures.calm.same_total) quiet c.in_ok-commit.ensures.commits c.begin.ensures.none
    (λ _. ap K.image same) (λ is. c.in_ok-slot.ensures.slot (subst IsTrue (sym (ap K.is_known same)) is)) c.requires.closed
