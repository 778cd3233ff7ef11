use Rattle.std.proofs.Common.{length, sym, ap, subst, ◌∙◌}
use Rattle.curve_laws.specs.Grid.{IsCell}
use Rattle.z_curve.specs.ZLaws.{is_curve}
use Rattle.join_step.proofs.step.reaching.Goals as goal

pub reach-requires : goal.reach-requires
reach-requires c =
    let ensured = c.in_ok-cell.ensures in
    subst (IsCell c.args.curve.now.n c.args.curve.now.b) (sym ensured.1)
    ((is_curve c.args.curve.now.n c.args.curve.now.b).cell_of_key c.args.entry.key ensured.0)

pub returns-clause-axes : goal.returns-clause-axes
returns-clause-axes c =
    let ensured = c.in_ok-cell.ensures in
    ap length ensured.1 ∙ ((is_curve c.args.curve.now.n c.args.curve.now.b).cell_of_key c.args.entry.key ensured.0).axes
