use Rattle.tree_tests.proofs.insertions.+add_ids.Given as goal

abbrev pub decreases-add_ids : goal.decreases-add_ids
decreases-add_ids l = l.level
