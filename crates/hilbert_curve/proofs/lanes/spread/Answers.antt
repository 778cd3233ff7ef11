use Rattle.std.proofs.Common.{ap, ◌∙◌}
use Rattle.hilbert_curve.proofs.Words.{spread_word, spread_word_is}
use Rattle.hilbert_curve.proofs.lanes.spread.Goals as goal

pub returns : goal.returns
returns g c =
    ap (spread_word g.row.N) c.from-bits.ensures ∙ spread_word_is g.row.N c.args.bits c.requires.axes.0 c.requires.axes.1 c.requires.bits
