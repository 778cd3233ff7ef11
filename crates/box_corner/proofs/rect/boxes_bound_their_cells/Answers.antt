use Rattle.box_corner.proofs.Bounds.{bound-in_box, bound-of_point, met-in_box, met-of_point, met-by_bound}
use Rattle.box_corner.proofs.rect.boxes_bound_their_cells.Goals as goal

pub returns-clause-bound : goal.returns-clause-bound
returns-clause-bound c = bound-in_box

pub returns-clause-met : goal.returns-clause-met
returns-clause-met c = met-in_box

pub returns-clause-point_bound : goal.returns-clause-point_bound
returns-clause-point_bound c = bound-of_point

pub returns-clause-point_met : goal.returns-clause-point_met
returns-clause-point_met c = λ asked v radius. met-of_point asked v radius

pub returns-clause-bounded : goal.returns-clause-bounded
returns-clause-bounded c = met-by_bound
