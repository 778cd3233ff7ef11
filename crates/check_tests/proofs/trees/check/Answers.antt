use Rattle.page_laws.specs.PlainPages.{in_pool}
use Rattle.check_tests.proofs.PagesUsed.{kept}
use Rattle.check_tests.proofs.trees.check.Goals as goal

pub returns-clause-range : goal.returns-clause-range
returns-clause-range g c =
    kept (in_pool c.args.pages.now) (in_pool c.check_tree.new.pages) c.args.used.now c.check_tree.new.used c.check_tree.ensures.stay.continues.pool c.check_tree.ensures.range c.requires.range
