use Rattle.tree_forest.proofs.Replacing.{kept-forest, kept-list}
use Rattle.tree_forest.specs.Forests.{corners_of}
use Rattle.tree_forest.proofs.laws.other_pages_are_replaced.Goals as goal

pub returns-clause-forest : goal.returns-clause-forest
returns-clause-forest c = λ profile old new in_pool free roots forest same. kept-forest (corners_of profile) old in_pool free roots forest new same

pub returns-clause-lists : goal.returns-clause-lists
returns-clause-lists c = λ profile old new in_pool free roots k forest same below. kept-list (corners_of profile) old in_pool free roots forest new same k below
