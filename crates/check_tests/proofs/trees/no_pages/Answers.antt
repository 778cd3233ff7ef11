use Rattle.page_laws.specs.PlainPages.{in_pool}
use Rattle.check_tests.proofs.PagesUsed.{new_covers}
use Rattle.check_tests.proofs.trees.no_pages.Goals as goal

pub returns : goal.returns
returns c = new_covers (in_pool c.args.pages.now) c.args.count c.in_ok-used.used c.requires c.in_ok-used.ensures.range
