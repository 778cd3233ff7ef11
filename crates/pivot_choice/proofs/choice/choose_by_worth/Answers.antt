use Rattle.std.proofs.Common.{◌≡◌, ℕ, ◌+◌, ◌<◌, ◌++◌, length, get_or, set, refl, sym, ap, ◌∙◌, arith}
use Rattle.metric_laws.specs.Log.{each_with}
use Rattle.metric_laws.specs.LogLaws.{LogExtends-nothing, LogExtends-then, LogExtends-same}
use Rattle.spb_defs.specs.Choice.{sample_at, choice_evals}
use Rattle.pivot_choice.specs.Worths.{updated_worth, unchosen_among_first, choice_visits}
use Rattle.pivot_choice.proofs.Choosing.{Choosing-start, Choosing-more, count-pass, visits-pass, evals-most}
use Rattle.pivot_choice.proofs.choice.choose_by_worth.Goals as goal

pub loop-init : goal.loop-init
loop-init g c =
    let start = Choosing-start (g.R.Ruler.dist (g.R.Ruler.kind c.args.ruler.now))
    c.args.sample.now c.args.worths.now c.in_ok-places.places c.best_place-chosen.result
    (omega (arith, c.requires.some, c.requires.enough)) c.requires.worths c.best_place-chosen.ensures.first c.in_ok-places.ensures in
    (0, refl, start, refl, omega arith, LogExtends-nothing _)

pub add_distances-requires-clause-room : goal.add_distances-requires-clause-room
add_distances-requires-clause-room g c =
    let count = c.loop.invariant.4 in
    let most = evals-most (length c.args.sample.now) c.loop.counter c.requires.few in
    let few = c.requires.few in
    let enough = c.requires.enough in
    let room = c.requires.room in
    let test = c.loop-test.true in
    omega arith

pub loop-preserved : goal.loop-preserved
loop-preserved g c =
    let kept = c.loop.invariant in
    let before = kept.0 in
    let choosing = kept.2 in
    let samples = c.args.sample.now in
    let kind = g.R.Ruler.kind c.args.ruler.now in
    let dist = g.R.Ruler.dist kind in
    let old = set c.loop.worths c.loop.chosen 0 in
    let kind_is = kept.3 in
    let counter : before + 1 ≡ c.loop.counter = kept.1 in
    let each = λ (k : ℕ) (below : k < length c.add_distances.new.worths).
    c.add_distances.ensures.worths k below ∙ ap (λ K. updated_worth (g.R.Ruler.dist K) samples c.loop.chosen k (get_or old k 0)) kind_is in
    let next = Choosing-more dist samples before c.loop.worths c.loop.places c.loop.chosen c.add_distances.new.worths c.append.new.self
    c.best_place-chosen-in-loop.result
    choosing (omega (arith, c.requires.enough, c.loop-test.true))
    c.add_distances.ensures.length each c.add_distances.ensures.rise c.best_place-chosen-in-loop.ensures.first c.in_ok-append.ensures.ok in
    let count = count-pass dist samples before c.loop.worths c.loop.places c.loop.chosen choosing in
    let count_is = kept.4 in
    let visits = visits-pass dist samples before c.loop.worths c.loop.places c.loop.chosen choosing in
    let counter_more = ap (λ (n : ℕ). n + 1) counter in
    let counts = ap (choice_evals (length samples)) counter in
    let counts_more = ap (choice_evals (length samples)) counter_more in
    let visits_more = ap (λ (n : ℕ). choice_visits dist samples n
    ++ each_with (sample_at samples c.loop.chosen) (unchosen_among_first old samples (length samples))) (sym counter) ∙ visits
    ∙ ap (choice_visits dist samples) counter_more in (
      before + 1,
      counter_more,
      next,
      c.add_distances.ensures.kind ∙ kind_is,
      omega (arith, c.add_distances.ensures.count),
      LogExtends-same _ _ _ _ visits_more (LogExtends-then _ _ _ _ _ kept.5 c.add_distances.ensures.log),
    )
