use Rattle.std.proofs.Common.{◌-◌, ◌*◌, ◌/◌, ◌%◌, ◌^◌, get_or, ap, ◌∙◌, arith}
use Rattle.hilbert_curve.specs.declared.lanes.TheConstants.{FACTORS}
use Rattle.hilbert_curve.proofs.Words.{gathered_word, gathered_word_is, masked-lt}
use Rattle.hilbert_curve.proofs.lanes.gathered.Goals as goal

pub overflow_cast-result : goal.overflow_cast-result
overflow_cast-result g c =
    omega (
      arith,
      masked-lt g.row.N (c.args.apart * get_or FACTORS g.row.N 0 % 18446744073709551616 / 2 ^ ((64 / g.row.N - 1) * (g.row.N - 1)))
          c.requires.axes.0 c.requires.axes.1,
    )

pub returns-clause-bits : goal.returns-clause-bits
returns-clause-bits g c = λ x l is. ap (gathered_word g.row.N) is ∙ gathered_word_is g.row.N x c.requires.axes.0 c.requires.axes.1 l
