use Rattle.std.proofs.Common.{◌+◌, ◌^◌, ◌<◌, ◌≤◌, sym, arith}
use Rattle.metrics_builtin.specs.Space.{top}
use Rattle.metrics_builtin.specs.BitLaws.{bit_count-highest, IsBitCount-highest, power_next}
use Rattle.metrics_builtin.proofs.Space.bits.Goals as goal

pub returns-clause-value : goal.returns-clause-value
returns-clause-value c =
    let low : 2 ^ c.ilog2.result ≤ top c.args.self.now = omega arith in
    let high : top c.args.self.now < 2 ^ (c.ilog2.result + 1) = omega (arith, power_next c.ilog2.result) in
    sym (bit_count-highest (top c.args.self.now) c.ilog2.result low high (omega arith))

pub returns-clause-least : goal.returns-clause-least
returns-clause-least c =
    let low : 2 ^ c.ilog2.result ≤ top c.args.self.now = omega arith in
    let high : top c.args.self.now < 2 ^ (c.ilog2.result + 1) = omega (arith, power_next c.ilog2.result) in
    IsBitCount-highest (top c.args.self.now) c.ilog2.result low high
