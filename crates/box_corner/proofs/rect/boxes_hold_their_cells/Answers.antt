use Rattle.box_corner.proofs.Holding.{box_of_point, box_of_joined, one_box}
use Rattle.box_corner.proofs.rect.boxes_hold_their_cells.Goals as goal

pub returns-clause-one : goal.returns-clause-one
returns-clause-one c = box_of_point

pub returns-clause-joined : goal.returns-clause-joined
returns-clause-joined c = box_of_joined

pub returns-clause-unique : goal.returns-clause-unique
returns-clause-unique c = one_box
