use Rattle.std.proofs.Common.{ℕ, List, [], ◌∷◌, ◌++◌, take, sym, ap, subst, ◌∙◌, arith}
use Rattle.bptree_walk.proofs.Staying.{known_on, stays_on}
use Rattle.join_window.specs.declared.window.Reaching.{Reaching}
use Rattle.join_step.specs.Meetings.{pairs_with, GoesOver}
use Rattle.join_step.proofs.Judging.{tallies-more, fetches-more, pairs-more, goes-then, goes-one}
use Rattle.join_step.proofs.step.judge_all.Goals as goal

pub loop-earlier-preserved : goal.loop-earlier-preserved
loop-earlier-preserved g c =
    let ruler = g.R.Ruler in
    let pages = g.P.Pages in
    let kept = c.loop-earlier.invariant in
    let start = c.args.ruler.now in
    let amid = c.loop-earlier.ruler in
    let now = c.judge.new.ruler in
    let v = c.in_ok-verdict.verdict in
    let pair : Reaching × Reaching = (c.pair.result.0.now, c.pair.result.1.now) in
    let name : ℕ × ℕ = (pair.0.entry.id, pair.1.entry.id) in
    let i = c.loop-earlier.earlier-index in
    let noted = c.in_ok-note.ensures.noted in
    let judged = c.in_ok-verdict.ensures in record {
      same_kind = c.judge.ensures.kind ∙ kept.same_kind;
      stay = stays_on pages c.args.pages.now c.loop-earlier.pages kept.stay g.met.P.Pages.calm_chains c.judge.new.pages c.judge.ensures.stay;
      faults = let a = kept.faults in let b = judged.fault in omega (arith, a, b);
      tallies = tallies-more i name v c.args.found.now c.loop-earlier.found c.note.new.self (ruler.count start) (ruler.count amid) (ruler.count now) kept.tallies
          noted judged.count;
      steps = let a = kept.steps in let b = c.judge.ensures.steps in omega (arith, a, b);
      fetches = fetches-more name v c.args.found.now c.loop-earlier.found c.note.new.self (pages.fetches c.args.pages.now) (pages.fetches c.loop-earlier.pages)
          (pages.fetches c.judge.new.pages) kept.tallies.least noted kept.fetches judged.fetches;
      goes = λ known.
          let there = known_on pages c.args.pages.now c.loop-earlier.pages kept.stay known in
          let one = goes-one (ruler.dist (ruler.kind amid)) c.args.request.now.r (pages.page_at c.loop-earlier.pages) pair v c.loop-earlier.found c.note.new.self
          (ruler.count amid) (ruler.log amid) (ruler.count now) (ruler.log now) (judged.verdict there) noted judged.count (judged.log there) in
          let at_start = subst (λ k. GoesOver (ruler.dist k) c.args.request.now.r (pages.page_at c.loop-earlier.pages) (pair ∷ []) c.loop-earlier.found c.note.new.self
          (ruler.count amid) (ruler.log amid) (ruler.count now) (ruler.log now)) kept.same_kind one in
          let of_pages = subst (λ (held : ℕ → List ℕ). GoesOver (ruler.dist (ruler.kind start)) c.args.request.now.r held (pair ∷ []) c.loop-earlier.found
          c.note.new.self (ruler.count amid) (ruler.log amid) (ruler.count now) (ruler.log now)) (kept.stay.contents known) at_start in
          let placing = c.args.placing in
          let later = c.args.later.now in
          let so_far = pairs_with placing later (take i c.args.held.now) in
          let all = goes-then (ruler.dist (ruler.kind start)) c.args.request.now.r (pages.page_at c.args.pages.now) so_far (pair ∷ []) c.args.found.now
          c.loop-earlier.found c.note.new.self (ruler.count start) (ruler.log start) (ruler.count amid) (ruler.log amid) (ruler.count now) (ruler.log now)
          (kept.goes known) of_pages in
          let more = ap (λ (p : Reaching × Reaching). so_far ++ p ∷ []) c.pair.ensures
          ∙ sym (pairs-more placing later c.args.held.now i c.earlier-item.result (omega arith) c.earlier-item.is) in
          subst (λ (pairs : List (Reaching × Reaching)). GoesOver (ruler.dist (ruler.kind start)) c.args.request.now.r (pages.page_at c.args.pages.now) pairs
          c.args.found.now c.note.new.self (ruler.count start) (ruler.log start) (ruler.count now) (ruler.log now)) more all;
    }
