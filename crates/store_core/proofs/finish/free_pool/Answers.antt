use Rattle.std.proofs.Common.{◌≡◌, sym, ap, subst, ◌∙◌}
use Rattle.store_core.proofs.PageSteps.{nothing_staged}
use Rattle.store_core.proofs.finish.free_pool.Goals as goal

pub unreachable-requires : goal.unreachable-requires
unreachable-requires g c =
    let none = nothing_staged c.begin.new.self.staged c.free_pages.new.pages.staged c.begin.ensures.none c.free_pages.ensures.continues.put in
    c.in_default.not-Ok tt (c.commit.ensures.silent none).1

pub returns-clause-quiet : goal.returns-clause-quiet
returns-clause-quiet g c =
    let none = nothing_staged c.begin.new.self.staged c.free_pages.new.pages.staged c.begin.ensures.none c.free_pages.ensures.continues.put in
    let begun : c.begin.new.self.disk ≡ c.args.pages.now.disk = ap (λ p. p.disk) c.begin.ensures.begun in
    subst (λ d. g.D.Disk.quiet d c.commit.new.self.disk) begun
    (subst (λ d. g.D.Disk.quiet c.begin.new.self.disk d) (sym (c.commit.ensures.silent none).0) c.free_pages.ensures.continues.calmly.is_quiet)

pub returns-clause-counts : goal.returns-clause-counts
returns-clause-counts g c =
    let none = nothing_staged c.begin.new.self.staged c.free_pages.new.pages.staged c.begin.ensures.none c.free_pages.ensures.continues.put in
    let begun : c.begin.new.self.disk ≡ c.args.pages.now.disk = ap (λ p. p.disk) c.begin.ensures.begun in
    ap g.D.Disk.faults (c.commit.ensures.silent none).0 ∙ c.free_pages.ensures.continues.counted ∙ ap g.D.Disk.faults begun
