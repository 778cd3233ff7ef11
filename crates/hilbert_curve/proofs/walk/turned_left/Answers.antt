use Rattle.std.proofs.Common.{ap, ◌∙◌}
use Rattle.hilbert_curve.proofs.Words.{turned_word, turned_word_is}
use Rattle.hilbert_curve.proofs.walk.turned_left.Goals as goal

pub returns-clause-turned : goal.returns-clause-turned
returns-clause-turned g c =
    ap (turned_word g.row.N c.args.places) c.from-x.ensures
    ∙ turned_word_is g.row.N c.args.x c.args.places c.requires.axes.0 c.requires.axes.1 c.requires.places c.requires.bits
