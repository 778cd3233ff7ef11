use Rattle.tree_lists.proofs.Counting.{all-counted, one-counted}
use Rattle.tree_lists.proofs.laws.objects_are_counted.Goals as goal

pub returns-clause-all : goal.returns-clause-all
returns-clause-all c = all-counted

pub returns-clause-one : goal.returns-clause-one
returns-clause-one c = one-counted
