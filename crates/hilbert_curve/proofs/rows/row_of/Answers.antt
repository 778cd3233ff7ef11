use Rattle.std.proofs.Common.{◌<◌, ◌*◌, ◌/◌, ◌%◌, length, arith}
use Rattle.hilbert_curve.specs.Rows.{row_in}
use Rattle.hilbert_curve.proofs.rows.row_of.Goals as goal

pub returns : goal.returns
returns g c =
    let inside : c.args.group % 32 < length c.part_of.result.now = omega (arith, c.part_of.ensures.length, c.requires.group) in
    row_in g.row.N (32 * (c.args.group / 32)) c.part_of.result.now (c.args.group % 32) c.args.group record { gray = 0; entry = 0; direction = 0 }
    c.part_of.ensures.rows inside (omega arith)
