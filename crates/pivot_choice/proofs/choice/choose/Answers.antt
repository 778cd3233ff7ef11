use Rattle.std.proofs.Common.{◌≡◌, ℕ, ◌<◌, [], List, length, All, sym, ap, subst, ◌∙◌}
use Rattle.std.specs.List.{IsDistinct}
use Rattle.std.specs.Prelude.{nat_eq}
use Rattle.std.proofs.lemmas.Result.{IfOk-weaker}
use Rattle.spb_defs.specs.Choice.{chosen_places}
use Rattle.spb_defs.specs.ChoiceLaws.{chosen-length, chosen-within}
use Rattle.spb_defs.specs.Farthest.{IsFarthestFirst}
use Rattle.pivot_choice.proofs.Choosing.{chosen-none, none-distinct, none-farthest}
use Rattle.pivot_choice.proofs.choice.choose.Goals as goal

pub returns-then-n-eq0-clause-places : goal.returns-then-n-eq0-clause-places
returns-then-n-eq0-clause-places g c =
    let dist = g.R.Ruler.dist (g.R.Ruler.kind c.args.ruler.now) in
    let none : [] ≡ chosen_places dist c.args.sample.now c.args.n = sym (chosen-none dist c.args.sample.now)
    ∙ ap (chosen_places dist c.args.sample.now) (sym c.if-n-eq0.true) in
    IfOk-weaker _ _ _ (λ (places : List ℕ) (e : places ≡ []). e ∙ none) c.of.ensures

pub returns-then-n-eq0-clause-distinct : goal.returns-then-n-eq0-clause-distinct
returns-then-n-eq0-clause-distinct g c =
    IfOk-weaker _ _ _ (λ (places : List ℕ) (e : places ≡ []). subst (IsDistinct nat_eq) (sym e) none-distinct) c.of.ensures

pub returns-clause-within : goal.returns-clause-within
returns-clause-within g c =
    let dist = g.R.Ruler.dist (g.R.Ruler.kind c.args.ruler.now) in
    let samples = c.args.sample.now in
    let within = chosen-within dist samples c.args.n c.requires.enough in
    IfOk-weaker _ _ _ (λ (places : List ℕ) (e : places ≡ chosen_places dist samples c.args.n). subst (All (λ (place : ℕ). place < length samples)) (sym e)
    within) c.choose_by_worth.ensures.places

pub returns-clause-length : goal.returns-clause-length
returns-clause-length g c =
    let dist = g.R.Ruler.dist (g.R.Ruler.kind c.args.ruler.now) in
    let many = chosen-length dist c.args.sample.now c.args.n in
    IfOk-weaker _ _ _ (λ (places : List ℕ) (e : places ≡ chosen_places dist c.args.sample.now c.args.n). ap length e ∙ many) c.choose_by_worth.ensures.places

pub returns-then-n-eq0-clause-farthest : goal.returns-then-n-eq0-clause-farthest
returns-then-n-eq0-clause-farthest g c =
    let dist = g.R.Ruler.dist (g.R.Ruler.kind c.args.ruler.now) in
    let samples = c.args.sample.now in
    IfOk-weaker _ _ _ (λ (places : List ℕ) (e : places ≡ []). subst (IsFarthestFirst dist samples) (sym e) (none-farthest dist samples)) c.of.ensures

pub returns-clause-farthest : goal.returns-clause-farthest
returns-clause-farthest g c =
    let dist = g.R.Ruler.dist (g.R.Ruler.kind c.args.ruler.now) in
    let samples = c.args.sample.now in
    IfOk-weaker _ _ _ (λ (places : List ℕ) (e : places ≡ chosen_places dist samples c.args.n).
    ((c.pivots_are_farthest_first.ensures dist samples c.args.n places c.requires.enough).0 e).farthest) c.choose_by_worth.ensures.places
