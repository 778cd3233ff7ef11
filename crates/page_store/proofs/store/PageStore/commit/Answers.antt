use Rattle.std.proofs.Common.{◌≡◌, ℕ, ◌*◌, false, IsTrue, length, sym, ◌∙◌, subst}
use Rattle.std.specs.Prelude.{OnOk}
use Rattle.redo_journal.specs.Pages.{page}
use Rattle.redo_journal.specs.Redo.{has_open_gate, overlay}
use Rattle.redo_journal.specs.Journal.{disk_of, total_of, staged_of}
use Rattle.page_store.specs.PageStore.{PagesView, has, page_at}
use Rattle.page_store.proofs.Changing.{CommitSays}
use Rattle.page_store.proofs.Same.{same_pages}
use Rattle.page_store.proofs.store.PageStore.commit.Goals as goal

pub returns-clause-any_moment : goal.returns-clause-any_moment
returns-clause-any_moment g c = let K = g.D.Disk in
    subst (λ (v : PagesView g.row.D.Denot). CommitSays K.is_known K.knows_crashes K.image K.crash_states K.moment K.crash_states_since
    v.disk v.total v.staged (disk_of c.end_change-done.new.journal)) c.self.view_is c.end_change-done.ensures.any_moment

pub returns-clause-same : goal.returns-clause-same
returns-clause-same g c =
    let K = g.D.Disk in
    let journal = c.self.inside.journal in
    let left = c.end_change-done.new.journal in
    let closed = subst (λ (v : PagesView g.row.D.Denot). IsTrue (K.is_known v.disk) → has_open_gate (K.image v.disk) ≡ false)
    (sym c.self.view_is) c.requires.closed in
    subst (λ (v : PagesView g.row.D.Denot). IsTrue (K.is_known v.disk)
    → OnOk c.end_change-done.result ((n : ℕ) → IsTrue (has v n) → overlay (staged_of left) (page (K.image (disk_of left))) n ≡ page_at K.image v n))
    c.self.view_is
    (λ known.
    let size : length (K.image (disk_of journal)) ≡ 512 * total_of journal =
    sym (g.met.D.Disk.length_is (disk_of journal) known) ∙ c.self.invariant.pages.size in
    same_pages c.end_change-done.result (total_of journal) c.self.inside.free.first c.self.inside.free.count (staged_of journal) (staged_of left)
    (K.image (disk_of journal)) (K.image (disk_of left)) c.end_change-done.ensures.none c.self.invariant.pages.least size
    c.self.invariant.least c.self.invariant.within (closed known) (c.end_change-done.ensures.commits known) (c.end_change-done.ensures.closed known))
