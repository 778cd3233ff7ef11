use Rattle.box_corner.specs.Shelves.{AreCurveCorners}
use Rattle.query_shelf.proofs.Covering.{root_covered}
use Rattle.query_shelf.proofs.laws.ranges_cover_their_keys.Goals as goal

pub returns : goal.returns
returns g c = λ pages root asked radius corners keys.
    let axes = g.C.Curve.axes c.args.curve.now in
    let bits = g.C.Curve.bits c.args.curve.now in
    let key_of = g.C.Curve.key_of c.args.curve.now in
    let cell_of = g.C.Curve.cell_of c.args.curve.now in
    root_covered axes bits cell_of asked radius (λ v box inside near. c.boxes_bound_their_cells.ensures.met asked v radius box inside near)
    (AreCurveCorners axes bits key_of cell_of) c.corners_are_the_box.ensures.read_back pages root.height root.page corners keys
