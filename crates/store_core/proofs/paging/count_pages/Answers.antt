use Rattle.std.proofs.Common.{◌≡◌, ◌∙◌, IsTrue, refl, sym, subst, length}
use Rattle.store_check.specs.Damage.{IsMarked}
use Rattle.store_core.proofs.paging.count_pages.Goals as goal

pub returns-in-None-clause-counts : goal.returns-in-None-clause-counts
returns-in-None-clause-counts g c = λ tells.
    let image = g.D.Disk.image c.args.disk.now in
    let size : c.in_ok-size.size ≡ length image = c.in_ok-size.ensures.size ∙ g.met.D.Disk.length_is c.args.disk.now tells in
    let marked : IsMarked image =
    subst IsMarked (c.size_in_bytes.ensures.image tells)
    (c.in_ok-refuse_unmarked.ensures.marked (subst IsTrue (sym c.size_in_bytes.ensures.disk.0.0.0) tells)) in
    (refl, refl, record { marked = marked; never = λ pages paged. c.in-None.ensures pages paged.most (size ∙ paged.size, paged.least) })
