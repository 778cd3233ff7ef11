use Rattle.std.proofs.Common.{◌≡◌, ℕ, ◌+◌, ◌<◌, [], ◌∷◌, get_or, sym, ap, ◌∙◌, arith, below_more}
use Rattle.std.proofs.lemmas.List.{get_or_default, length-set}
use Rattle.metric_laws.specs.Log.{each_with}
use Rattle.metric_laws.specs.LogLaws.{LogExtends-then, LogExtends-same}
use Rattle.spb_defs.specs.Choice.{sample_at}
use Rattle.pivot_choice.specs.Worths.{updated_worth}
use Rattle.pivot_choice.proofs.Passing.{updated_worth-none, updated_worth-some, set-passed, set-ahead, set-rise, open-none, open-some, count-none, count-some}
use Rattle.pivot_choice.proofs.choice.add_distances.Goals as goal

pub loop-place-preserved-then-worths-place-eq0 : goal.loop-place-preserved-then-worths-place-eq0
loop-place-preserved-then-worths-place-eq0 g c =
    let kept = c.loop-place.invariant in
    let place = c.loop-place.place in
    let old = c.args.worths.now in
    let dist = g.R.Ruler.dist (g.R.Ruler.kind c.args.ruler.now) in
    let none : get_or old place 0 ≡ 0 = sym (kept.ahead place (omega arith)) ∙ c.if-worths-place-eq0.true in
    let here : get_or c.loop-place.worths place 0 ≡ updated_worth dist c.args.sample.now c.args.chosen place (get_or old place 0) =
    c.if-worths-place-eq0.true ∙ sym (updated_worth-none dist c.args.sample.now c.args.chosen place (get_or old place 0) none) in
    let count = count-none old place (omega arith) none in
    let visits = open-none old c.args.sample.now place none in
    record {
      same_length = kept.same_length;
      passed = below_more (λ (k : ℕ). get_or c.loop-place.worths k 0 ≡ updated_worth dist c.args.sample.now c.args.chosen k (get_or old k 0))
          place kept.passed here;
      ahead = λ k above. kept.ahead k (omega arith);
      rise = kept.rise;
      kind_is = kept.kind_is;
      count_is = kept.count_is ∙ ap (λ (n : ℕ). g.R.Ruler.count c.args.ruler.now + n) (sym count);
      grew = LogExtends-same _ _ _ _ (ap (each_with (sample_at c.args.sample.now c.args.chosen)) visits) kept.grew;
    }

pub loop-place-preserved : goal.loop-place-preserved
loop-place-preserved g c =
    let kept = c.loop-place.invariant in
    let place = c.loop-place.place in
    let old = c.args.worths.now in
    let samples = c.args.sample.now in
    let dist = g.R.Ruler.dist (g.R.Ruler.kind c.args.ruler.now) in
    let worth = get_or c.loop-place.worths place 0 + c.from.result in
    let as_before : get_or c.loop-place.worths place 0 ≡ get_or old place 0 = kept.ahead place (omega arith) in
    let some : 0 < get_or old place 0 = omega arith in
    let from : c.as_slice-from.result.now ≡ sample_at samples c.args.chosen = c.as_slice-from.ensures ∙ c.index-sample-chosen.is
    ∙ get_or_default samples c.args.chosen _ _ c.requires.within in
    let object : c.as_slice.result.now ≡ sample_at samples place = c.as_slice.ensures ∙ c.index-sample-place.is
    ∙ get_or_default samples place _ _ c.loop-place-test.true in
    let measured : c.from.result ≡ dist (sample_at samples c.args.chosen) (sample_at samples place) =
    c.from.ensures ∙ c.measure.ensures.distance ∙ ap (λ k. g.R.Ruler.dist k c.as_slice-from.result.now c.as_slice.result.now) kept.kind_is
    ∙ ap (λ a. dist a c.as_slice.result.now) from ∙ ap (dist (sample_at samples c.args.chosen)) object in
    let sum : worth ≡ get_or old place 0 + dist (sample_at samples c.args.chosen) (sample_at samples place) = omega arith in
    let here : worth ≡ updated_worth dist samples c.args.chosen place (get_or old place 0) = sum
    ∙ sym (updated_worth-some dist samples c.args.chosen place (get_or old place 0) some) in
    let count = count-some old place (omega arith) some in
    let visits = open-some old samples (sample_at samples c.args.chosen) place some in
    let low : c.from.result < 4294967296 = omega (arith, c.measure.type_inv) in
    let one = ap (λ pair. pair ∷ []) (ap (λ a. (a, c.as_slice.result.now)) from ∙ ap (λ b. (sample_at samples c.args.chosen, b)) object) in
    record {
      same_length = length-set c.loop-place.worths place worth ∙ kept.same_length;
      passed = set-passed (λ (k : ℕ). updated_worth dist samples c.args.chosen k (get_or old k 0)) c.loop-place.worths place worth (omega arith)
          here kept.passed;
      ahead = set-ahead c.loop-place.worths old place worth kept.ahead;
      rise = set-rise c.loop-place.worths old place worth 4294967295 (omega arith) (omega arith) kept.rise;
      kind_is = c.measure.ensures.kind ∙ kept.kind_is;
      count_is = c.measure.ensures.count ∙ omega (arith, kept.count_is);
      grew = LogExtends-same _ _ _ _ visits (LogExtends-then _ _ _ _ _ kept.grew (LogExtends-same _ _ _ _ one c.measure.ensures.log));
    }
