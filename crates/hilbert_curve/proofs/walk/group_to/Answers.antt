use Rattle.std.proofs.Common.{ap, ◌∙◌}
use Rattle.std.specs.Int.Bits.{bit_xor, xor_lt}
use Rattle.hilbert_curve.specs.Tables.{ungray}
use Rattle.hilbert_curve.specs.Curve.{group_of}
use Rattle.hilbert_curve.specs.Rotation.{turned_off_by}
use Rattle.hilbert_curve.proofs.walk.group_to.Goals as goal

pub turned_left-requires-clause-bits : goal.turned_left-requires-clause-bits
turned_left-requires-clause-bits g c = xor_lt g.row.N c.args.bits c.args.entry c.requires.bits c.requires.state.0

pub returns-clause-group : goal.returns-clause-group
unfolding group_of
returns-clause-group g c =
    c.from_gray.ensures.number
    ∙ ap (ungray g.row.N) (c.turned_left.ensures.turned
    ∙ turned_off_by g.row.N c.requires.axes.0 (bit_xor c.args.bits c.args.entry) c.args.turn c.requires.state.1)
