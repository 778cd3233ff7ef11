use Rattle.bptree_node.proofs.NodePages.{head_written}
use Rattle.bptree_node.proofs.writers.write_head.Goals as goal

pub returns : goal.returns
returns c = head_written c.args.kind c.args.count c.args.page.now c.fill.new.self (c.fill.ensures.after (λ y e. e)) c.told-page
