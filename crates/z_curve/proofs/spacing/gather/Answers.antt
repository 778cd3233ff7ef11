use Rattle.std.proofs.Common.{◌≡◌, ℕ, ◌^◌, ◌<◌, ◌≤◌, ◌-◌, ◌+◌, ◌/◌, ◌∙◌, ap, rules, get_or, bit_and, bit_or, arith}
use Rattle.z_curve.specs.Spacing.{cut_to, most_bits}
use Rattle.z_curve.specs.ZOrder.{gathered}
use Rattle.z_curve.specs.ZLaws.{gathered-below}
use Rattle.z_curve.proofs.Steps.{gather_step, whole_before, bits_before, small_gathered}
use Rattle.z_curve.proofs.spacing.gather.Goals as goal

pub loop-step-init : goal.loop-step-init
loop-step-init g c =
    ap (λ t. bit_and c.args.key t) (c.spacing_of-spacing.ensures.masks 5 (omega arith)) ∙ bits_before g.row.N c.args.key c.requires.low

pub loop-step-preserved : goal.loop-step-preserved
loop-step-preserved g c =
    let level : c.loop-step.step ≡ (c.loop-step.step - 1) + 1 = omega arith in
    let early : c.loop-step.step - 1 < 5 = omega arith in
    let now : c.loop-step.gathered ≡ cut_to g.row.N ((c.loop-step.step - 1) + 1) (gathered g.row.N (most_bits g.row.N) c.args.key) =
    c.loop-step.invariant ∙ ap (λ t. cut_to g.row.N t (gathered g.row.N (most_bits g.row.N) c.args.key)) level in
    ap (λ t. bit_and (bit_or t (t / 2 ^ get_or c.spacing_of-spacing.result.now.shifts (c.loop-step.step - 1) 0))
    (get_or c.spacing_of-spacing.result.now.masks (c.loop-step.step - 1) 0)) now
    ∙ gather_step g.row.N (c.loop-step.step - 1) (gathered g.row.N (most_bits g.row.N) c.args.key) _ _ c.requires.low early
    (gathered-below g.row.N (most_bits g.row.N) c.args.key)
    (c.spacing_of-spacing.ensures.shifts (c.loop-step.step - 1) early)
    (c.spacing_of-spacing.ensures.masks (c.loop-step.step - 1) (omega arith))

-- after the last step the pieces are one
ended : (n k step value : ℕ) → value ≡ cut_to n step (gathered n (most_bits n) k) → step ≤ 0 → value ≡ gathered n (most_bits n) k
ended n k step value now late =
    let none : step ≡ 0 = omega arith in
    now ∙ ap (λ t. cut_to n t (gathered n (most_bits n) k)) none ∙ whole_before n (gathered n (most_bits n) k) (small_gathered n k)

pub overflow_cast-result : goal.overflow_cast-result
overflow_cast-result g c =
    let value : c.loop-step.gathered ≡ gathered g.row.N (most_bits g.row.N) c.args.key =
    ended g.row.N c.args.key c.loop-step.step c.loop-step.gathered c.loop-step.invariant c.loop-step-test.false in
    let small : gathered g.row.N (most_bits g.row.N) c.args.key < 2 ^ 32 = small_gathered g.row.N c.args.key in
    let fits : c.loop-step.gathered < 2 ^ 32 = omega arith in
    search rules

pub returns : goal.returns
returns g c = ended g.row.N c.args.key c.loop-step.step c.loop-step.gathered c.loop-step.invariant c.loop-step-test.false
