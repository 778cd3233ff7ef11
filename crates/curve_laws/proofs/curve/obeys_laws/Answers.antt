use Rattle.curve_laws.specs.GridLaws.{cell_up_to, cell-low_corner, cell-high_corner}
use Rattle.curve_laws.proofs.curve.obeys_laws.Goals as goal

pub returns-clause-up_to : goal.returns-clause-up_to
returns-clause-up_to g c = cell_up_to (g.C.Curve.axes c.args.curve.now) (g.C.Curve.bits c.args.curve.now)

pub returns-clause-corners : goal.returns-clause-corners
returns-clause-corners g c = λ v w first second. (
  cell-low_corner (g.C.Curve.axes c.args.curve.now) (g.C.Curve.bits c.args.curve.now) v w first second,
  cell-high_corner (g.C.Curve.axes c.args.curve.now) (g.C.Curve.bits c.args.curve.now) v w first second,
)
