use Rattle.std.proofs.Common.{◌≡◌, arith}
use Rattle.std.proofs.lemmas.List.{take_all}
use Rattle.metrics_builtin.specs.Vectors.{greatest}
use Rattle.spb_defs.specs.Choice.{first_place}
use Rattle.spb_defs.specs.ChoiceLaws.{first_place-within}
use Rattle.pivot_choice.proofs.Best.{step-rises, step-stays}
use Rattle.pivot_choice.proofs.choice.best_place.Goals as goal
use Rattle.pivot_choice.proofs.choice.best_place.Goals.{then-worth-most, else-worth-most}

pub loop-place-preserved : goal.loop-place-preserved
loop-place-preserved c =
    let kept = c.loop-place.invariant in
    elim c.if-worth-most.branch [
      | then-worth-most w ↦ (let step = step-rises c.args.worths.now c.loop-place.place c.loop-place.most (omega arith) kept.0 w.if-worth-most.true in (cc, cc))
      | else-worth-most w ↦ (let step = step-stays c.args.worths.now c.loop-place.place c.loop-place.most c.loop-place.best (omega arith)
          kept.0 kept.1 w.if-worth-most.false in (cc, cc))
    ]

pub returns-clause-within : goal.returns-clause-within
returns-clause-within c =
    let within = first_place-within c.args.worths.now c.requires.some in
    let all = take_all c.loop-place.place c.args.worths.now c.loop-place-test.false in
    let is : c.loop-place.best ≡ first_place (greatest c.args.worths.now) c.args.worths.now = cc in
    omega arith
