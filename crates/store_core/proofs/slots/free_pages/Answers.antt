use Rattle.std.proofs.Common.{◌∙◌}
use Rattle.store_core.proofs.PageSteps.{freed_more}
use Rattle.store_core.proofs.slots.free_pages.Goals as goal

pub loop-n-preserved : goal.loop-n-preserved
loop-n-preserved g c =
    let P = g.P.Pages in
    let so_far = c.loop-n.invariant.same in
    let is = c.give_page.ensures in
    record {
      freed = λ k. freed_more c.args.first c.loop-n.n k (P.free c.loop-n.pages) (P.free c.give_page.new.self) c.loop-n.auto.n is.given (c.loop-n.invariant.freed k);
      same = record {
        told = is.told ∙ so_far.told;
        map = is.map.0 ∙ so_far.map;
        pool = is.map.1 ∙ so_far.pool;
        change = is.open.0 ∙ so_far.change;
        put = is.open.1 ∙ so_far.put;
        counted = is.counts.1 ∙ so_far.counted;
        calmly = g.met.P.Pages.calm_chains c.args.pages.now c.loop-n.pages c.give_page.new.self so_far.calmly is.calm;
      };
    }
