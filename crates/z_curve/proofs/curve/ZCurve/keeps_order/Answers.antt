use Rattle.z_curve.proofs.Interleaving.{z_key-le}
use Rattle.z_curve.proofs.curve.ZCurve.keeps_order.Goals as goal

pub returns : goal.returns
returns c = λ v w cell up_to. z_key-le c.args.self.now.n c.args.self.now.b v w cell.grid.some_axis cell.axes up_to cell.below
