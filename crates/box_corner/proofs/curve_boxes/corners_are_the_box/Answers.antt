use Rattle.box_corner.proofs.TreeCorners.{corners_are_exact, corners_read_back}
use Rattle.box_corner.proofs.curve_boxes.corners_are_the_box.Goals as goal

pub returns : goal.returns
returns g c =
    let axes = g.C.Curve.axes c.args.curve.now in
    let bits = g.C.Curve.bits c.args.curve.now in
    let key_of = g.C.Curve.key_of c.args.curve.now in
    let cell_of = g.C.Curve.cell_of c.args.curve.now in
    let laws = g.met.C.Curve.curve_laws c.args.curve.now in
    record { exact = corners_are_exact axes bits key_of cell_of laws; read_back = corners_read_back axes bits key_of cell_of laws }
