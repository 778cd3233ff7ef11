use Rattle.std.proofs.Common.{◌*◌, ◌/◌, ◌^◌}
use Rattle.hilbert_curve.proofs.Words.{masked}
use Rattle.hilbert_curve.proofs.hilbert.group_in.Goals as goal

pub returns-clause-group : goal.returns-clause-group
returns-clause-group g c = masked g.row.N (c.args.key / 2 ^ (g.row.N * c.args.t)) c.requires.axes.0 c.requires.axes.1
