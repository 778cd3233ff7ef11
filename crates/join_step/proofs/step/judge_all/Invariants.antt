use Rattle.std.proofs.Common.{◌≡◌, ◌+◌, ◌*◌, ◌-◌, ◌≤◌, take}
use Rattle.std.specs.Prelude.{IsTrue}
use Rattle.page_laws.specs.Pages.{count_after}
use Rattle.bptree_walk.proofs.Staying.{Stay}
use Rattle.join_step.specs.Meetings.{pairs_with, Tallies, GoesOver}
use Rattle.join_step.proofs.step.judge_all.Given as goal

-- the pairs with the entries so far were judged
abbrev pub invariant-loop-earlier : goal.invariant-loop-earlier
invariant-loop-earlier g l =
    let ruler = g.R.Ruler in
    let pages = g.P.Pages in
    let kind = ruler.kind l.fn.ruler in record {
      same_kind : ruler.kind l.ruler ≡ kind;
      stay : Stay pages l.fn.pages l.pages;
      faults : pages.faults l.fn.pages ≤ pages.faults l.pages;
      tallies : Tallies l.earlier-index l.fn.found l.found (ruler.count l.fn.ruler) (ruler.count l.ruler);
      steps : l.steps ≡ l.fn.steps + l.earlier-index;
      fetches : pages.fetches l.pages ≡ count_after (pages.fetches l.fn.pages) (2 * (l.found.evals - l.fn.found.evals));
      goes : IsTrue (pages.is_known l.fn.pages)
          → GoesOver (ruler.dist kind) l.request.r (pages.page_at l.fn.pages) (pairs_with l.placing l.later (take l.earlier-index l.held)) l.fn.found l.found
          (ruler.count l.fn.ruler) (ruler.log l.fn.ruler) (ruler.count l.ruler) (ruler.log l.ruler);
    }
