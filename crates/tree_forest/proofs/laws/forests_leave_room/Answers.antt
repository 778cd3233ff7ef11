use Rattle.tree_forest.proofs.Room.{room}
use Rattle.tree_forest.specs.Forests.{corners_of}
use Rattle.tree_forest.proofs.laws.forests_leave_room.Goals as goal

pub returns : goal.returns
returns c = λ profile. room (corners_of profile)
