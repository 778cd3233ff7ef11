use Rattle.std.proofs.Common.{◌≡◌, suc, ◌-◌, ◌*◌, ◌%◌, ◌^◌, None, sym, ap, subst, arith}
use Rattle.std.proofs.lemmas.Nat.{pow_pos}
use Rattle.hilbert_curve.specs.Curve.{IsStep}
use Rattle.hilbert_curve.specs.CurveLaws.{found_is_step}
use Rattle.hilbert_curve.specs.StepLaws.{step_found}
use Rattle.hilbert_curve.specs.Rotation.{small_mod}
use Rattle.hilbert_curve.proofs.Walking.{step_next}
use Rattle.hilbert_curve.proofs.hilbert.walked_step.Goals as goal

pub loop-t-init : goal.loop-t-init
loop-t-init g c = (
  pow_pos g.row.N,
  c.requires.axes.0,
  ap (λ k. step_found g.row.N c.args.b 0 0 k None) (small_mod c.args.key (2 ^ (g.row.N * c.args.b)) c.requires.key),
)

pub loop-t-preserved : goal.loop-t-preserved
loop-t-preserved g c =
    let n = g.row.N in
    let u = c.loop-t.t - 1 in
    let up : c.loop-t.t ≡ suc u = omega (arith, c.loop-t-test.true) in
    let total = step_found n c.args.b 0 0 c.args.key None in (
      c.walk_state-bits.ensures.within.1,
      c.walk_state-bits.ensures.within.2,
      step_next n u c.loop-t.entry c.loop-t.turn c.args.key c.group_in-group.result c.walk_state-bits.result.0
          c.walk_state-bits.result.1 c.walk_state-bits.result.2 c.loop-t.found c.step_or-found.result total
          c.group_in-group.ensures.group c.walk_state-bits.ensures.bits c.step_or-found.ensures c.walk_state-bits.ensures.next_entry
          c.walk_state-bits.ensures.next_turn
          (subst (λ t. step_found n t c.loop-t.entry c.loop-t.turn (c.args.key % 2 ^ (n * t)) c.loop-t.found ≡ total) up c.loop-t.invariant.2),
    )

pub returns : goal.returns
returns g c =
    let n = g.row.N in
    let total = step_found n c.args.b 0 0 c.args.key None in
    let end : c.loop-t.t ≡ 0 = omega (arith, c.loop-t-test.false) in
    let last : c.loop-t.found ≡ total =
    subst (λ t. step_found n t c.loop-t.entry c.loop-t.turn (c.args.key % 2 ^ (n * t)) c.loop-t.found ≡ total) end c.loop-t.invariant.2 in
    subst (IsStep n c.args.b c.args.key) (sym last) (found_is_step n c.args.b c.args.key c.requires.axes.0 c.requires.axes.1 c.requires.key)
