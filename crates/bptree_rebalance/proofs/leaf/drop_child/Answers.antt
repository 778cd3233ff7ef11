use Rattle.bptree_rebalance.proofs.Children.{given-shrinks}
use Rattle.bptree_rebalance.proofs.leaf.drop_child.Goals as goal

pub returns-clause-pages : goal.returns-clause-pages
returns-clause-pages g c =
    let given = c.give_page.ensures in
    given-shrinks c.args.pages.now c.give_page.new.self _ given.given given.told given.map given.open given.calm
