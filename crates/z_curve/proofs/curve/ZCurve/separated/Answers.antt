use Rattle.std.proofs.Common.{◌≡◌, ◌≤◌, ◌∙◌, subst, refl, arith}
use Rattle.curve_laws.specs.Grid.{IsKey}
use Rattle.z_curve.specs.ZOrder.{z_cell}
use Rattle.z_curve.proofs.Separating.{separated}
use Rattle.z_curve.proofs.curve.ZCurve.separated.Goals as goal

pub returns : goal.returns
returns g c =
    let key : IsKey g.row.N c.args.self.now.b c.args.key = subst (λ t. IsKey t c.args.self.now.b c.args.key) c.requires.count c.requires.key in
    let ended : g.row.N ≤ c.loop-place.place = c.loop-place-test.false in
    c.of.ensures
    ∙ separated g.row.N c.args.self.now.b c.args.key c.loop-place.coordinate-items key c.loop-place.invariant.0
    (λ i h. c.loop-place.invariant.1 i (omega arith))
    ∙ subst (λ t. z_cell t c.args.self.now.b c.args.key ≡ z_cell c.args.self.now.n c.args.self.now.b c.args.key) c.requires.count refl
