use Rattle.std.proofs.Common.{◌≡◌, arith}
use Rattle.z_curve.specs.ZOrder.{z_key}
use Rattle.z_curve.proofs.Interleaving.{key_between}
use Rattle.z_curve.proofs.curve.ZCurve.corner_keys.Goals as goal

pub returns-clause-between : goal.returns-clause-between
returns-clause-between c = λ v above below.
    let first : c.key.result ≡ z_key c.args.self.now.b c.args.low.now = c.key.ensures in
    let second : c.key-2.result ≡ z_key c.args.self.now.b c.args.high.now = c.key-2.ensures in
    let between = key_between c.args.self.now.n c.args.self.now.b c.args.low.now v c.args.high.now c.requires.high_cell above below in
    (omega (arith, first, between.0), omega (arith, second, between.1))
