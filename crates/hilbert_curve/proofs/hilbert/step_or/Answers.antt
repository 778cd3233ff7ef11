use Rattle.std.proofs.Common.{◌≡◌, ◌+◌, ◌*◌, ◌%◌, ◌^◌, sym, ap, ◌∙◌, arith}
use Rattle.std.proofs.lemmas.Nat.{one_shl}
use Rattle.hilbert_curve.proofs.Walking.{step_here}
use Rattle.hilbert_curve.proofs.Words.{ones_at_end}
use Rattle.hilbert_curve.proofs.hilbert.step_or.Goals as goal

pub returns : goal.returns
returns g c =
    let end : 1 * 2 ^ g.row.N % 65536 ≡ 2 ^ g.row.N = one_shl g.row.N 16 (omega (arith, c.requires.axes)) in
    step_here g.row.N c.args.turn c.args.group c.args.bits c.trailing_ones.result c.args.found
    (c.trailing_ones.ensures ∙ ones_at_end c.args.group (omega (arith, c.ranges.group)))
    (λ e. c.if-from.false (ap (λ x. x + 1) c.from.ensures ∙ e ∙ sym end))
