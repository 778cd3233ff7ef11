use Rattle.tree_forest.proofs.Replacing.{new-forest, other-list, elsewhere}
use Rattle.tree_forest.specs.Forests.{corners_of}
use Rattle.tree_forest.proofs.laws.tree_is_replaced.Goals as goal

pub returns-clause-forest : goal.returns-clause-forest
returns-clause-forest c = λ profile old new in_pool old_free new_free roots k above forest below replaces.
    new-forest (corners_of profile) old in_pool old_free roots forest new new_free k above below replaces

pub returns-clause-others : goal.returns-clause-others
returns-clause-others c = λ profile old new in_pool old_free new_free roots k j above forest below replaces inside other.
    other-list (corners_of profile) old in_pool old_free roots forest new new_free k above below replaces j inside other

pub returns-clause-outside : goal.returns-clause-outside
returns-clause-outside c = λ profile old new in_pool old_free new_free roots k n above forest below replaces outside.
    elsewhere (corners_of profile) old in_pool old_free roots forest new new_free k above below replaces n outside
