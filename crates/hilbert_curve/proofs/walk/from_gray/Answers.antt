use Rattle.std.proofs.Common.{◌<◌, ◌^◌, sym, subst}
use Rattle.hilbert_curve.specs.RowLaws.{ungray-lt}
use Rattle.hilbert_curve.proofs.Words.{ungray_word_is}
use Rattle.hilbert_curve.proofs.walk.from_gray.Goals as goal

pub returns-clause-number : goal.returns-clause-number
returns-clause-number g c = ungray_word_is g.row.N c.args.code c.requires.axes.0 c.requires.axes.1 c.requires.code

pub returns-clause-within : goal.returns-clause-within
returns-clause-within g c =
    subst (λ x. x < 2 ^ g.row.N) (sym (returns-clause-number g c)) (ungray-lt g.row.N g.row.N c.args.code c.requires.code)
