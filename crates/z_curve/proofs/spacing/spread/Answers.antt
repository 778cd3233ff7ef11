use Rattle.std.proofs.Common.{◌^◌, ◌∙◌, sym, ap, get_or, bit_and, bit_or, ◌+◌, ◌*◌, ◌%◌, arith}
use Rattle.z_curve.proofs.Steps.{spread_step, whole_before}
use Rattle.z_curve.proofs.spacing.spread.Goals as goal

pub loop-step-init : goal.loop-step-init
loop-step-init g c = c.from-spread.ensures ∙ sym (whole_before g.row.N c.args.number (c.ranges.number.fits))

pub overflow_shl-spread : goal.overflow_shl-spread
overflow_shl-spread g c = c.spacing_of-spacing.ensures.short c.loop-step.step c.loop-step-test.true

pub loop-step-preserved : goal.loop-step-preserved
loop-step-preserved g c =
    ap (λ t. bit_and (bit_or t (t * 2 ^ get_or c.spacing_of-spacing.result.now.shifts c.loop-step.step 0 % 2 ^ 64))
    (get_or c.spacing_of-spacing.result.now.masks (c.loop-step.step + 1) 0)) c.loop-step.invariant
    ∙ spread_step g.row.N c.loop-step.step c.args.number _ _ c.requires.low c.loop-step-test.true c.requires.bits
    (c.spacing_of-spacing.ensures.shifts c.loop-step.step c.loop-step-test.true)
    (c.spacing_of-spacing.ensures.masks (c.loop-step.step + 1) (omega arith))
    (c.spacing_of-spacing.ensures.fits (c.loop-step.step + 1) (omega arith))
