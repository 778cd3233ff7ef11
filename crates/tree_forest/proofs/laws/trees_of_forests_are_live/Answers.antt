use Rattle.tree_forest.proofs.Replacing.{live-tree}
use Rattle.tree_forest.specs.Forests.{corners_of}
use Rattle.tree_forest.proofs.laws.trees_of_forests_are_live.Goals as goal

pub returns : goal.returns
returns c = λ profile home in_pool free roots k forest below. live-tree (corners_of profile) home in_pool free roots forest k below
