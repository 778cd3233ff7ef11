use Rattle.std.proofs.Common.{◌/◌, ◌^◌, bit_and, get_or, sym, ap, ◌∙◌}
use Rattle.std.specs.Int.{bit_at}
use Rattle.std.proofs.lemmas.Nat.Bits.{bit_at-lt}
use Rattle.hilbert_curve.specs.Curve.{lanes}
use Rattle.hilbert_curve.specs.Lanes.{lanes_same, lanes-bit, bit_at-lanes, lanes-lt_group}
use Rattle.hilbert_curve.specs.declared.lanes.TheConstants.{ONES}
use Rattle.hilbert_curve.proofs.Words.{ones_are}
use Rattle.hilbert_curve.proofs.lanes.bits_at.Goals as goal

pub returns-clause-bits : goal.returns-clause-bits
returns-clause-bits g c = λ v small is.
    let x = lanes 1 g.row.N (λ j. bit_at (v j) c.args.t) in
    c.gathered.ensures.bits x (lanes-lt_group g.row.N (λ j. bit_at (v j) c.args.t) (λ j l. bit_at-lt (v j) c.args.t))
    (ap (λ p. bit_and (p / 2 ^ c.args.t) (get_or ONES g.row.N 0)) is
    ∙ ap (bit_and (lanes (64 / g.row.N) g.row.N v / 2 ^ c.args.t)) (ones_are g.row.N c.requires.axes.0 c.requires.axes.1)
    ∙ lanes-bit (64 / g.row.N) g.row.N v c.args.t small c.requires.place
    ∙ lanes_same (64 / g.row.N) g.row.N (λ j. bit_at (v j) c.args.t) (bit_at x)
    (λ j l. sym (bit_at-lanes g.row.N (λ i. bit_at (v i) c.args.t) j (λ i k. bit_at-lt (v i) c.args.t) l)))
