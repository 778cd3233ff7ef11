use Rattle.tree_bounds.proofs.FewPages.{few-pages, many-entries}
use Rattle.tree_bounds.proofs.pool.trees_have_few_pages.Goals as goal

pub returns-clause-few : goal.returns-clause-few
returns-clause-few c = few-pages

pub returns-clause-tall : goal.returns-clause-tall
returns-clause-tall c = many-entries
