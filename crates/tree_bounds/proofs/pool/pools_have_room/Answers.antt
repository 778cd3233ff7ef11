use Rattle.tree_bounds.proofs.Room.{room-left, free-left}
use Rattle.tree_bounds.proofs.pool.pools_have_room.Goals as goal

pub returns-clause-used : goal.returns-clause-used
returns-clause-used c = λ cap pages is_live. room-left pages is_live cap

pub returns-clause-free : goal.returns-clause-free
returns-clause-free c = λ cap first pages is_live. free-left pages is_live cap first
