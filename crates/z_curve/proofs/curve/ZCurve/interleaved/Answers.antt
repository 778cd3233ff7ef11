use Rattle.std.proofs.Common.{◌<◌, ◌+◌, ◌*◌, ◌%◌, ◌^◌, subst, rules, arith}
use Rattle.curve_laws.specs.Grid.{IsCell}
use Rattle.z_curve.proofs.Interleaving.{nothing_interleaved, one_more, coordinate-below, whole_key}
use Rattle.z_curve.proofs.curve.ZCurve.interleaved.Goals as goal

pub loop-coordinate-init : goal.loop-coordinate-init
loop-coordinate-init g c = nothing_interleaved g.row.N 32

pub spread-requires-clause-bits : goal.spread-requires-clause-bits
spread-requires-clause-bits g c =
    coordinate-below g.row.N c.args.self.now.b c.loop-coordinate.coordinate-index c.args.coordinates.now
    (subst (λ t. IsCell t c.args.self.now.b c.args.coordinates.now) c.requires.count c.requires.cell) c.loop-coordinate-test.true

pub overflow_add-key : goal.overflow_add-key
overflow_add-key g c =
    let more = one_more g.row.N c.args.self.now.b c.loop-coordinate.coordinate-index c.loop-coordinate.key c.spread.result c.args.coordinates.now
    (subst (λ t. IsCell t c.args.self.now.b c.args.coordinates.now) c.requires.count c.requires.cell)
    c.loop-coordinate-test.true c.loop-coordinate.invariant c.spread.ensures in
    let fits : (c.loop-coordinate.key * 2) % 2 ^ 64 + c.spread.result < 2 ^ 64 = omega (arith, more.1) in
    search rules

pub loop-coordinate-preserved : goal.loop-coordinate-preserved
loop-coordinate-preserved g c =
    let more = one_more g.row.N c.args.self.now.b c.loop-coordinate.coordinate-index c.loop-coordinate.key c.spread.result c.args.coordinates.now
    (subst (λ t. IsCell t c.args.self.now.b c.args.coordinates.now) c.requires.count c.requires.cell)
    c.loop-coordinate-test.true c.loop-coordinate.invariant c.spread.ensures in
    omega (arith, more.0, more.1)

pub returns : goal.returns
returns g c =
    whole_key g.row.N c.args.self.now.b c.loop-coordinate.coordinate-index c.loop-coordinate.key c.args.coordinates.now
    (subst (λ t. IsCell t c.args.self.now.b c.args.coordinates.now) c.requires.count c.requires.cell) c.loop-coordinate.invariant c.loop-coordinate-test.false
