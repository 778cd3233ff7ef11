use Rattle.bptree_walk.proofs.Opening.{put_deeper}
use Rattle.bptree_walk.proofs.Staying.{live_of}
use Rattle.bptree_walk.proofs.visit.put_ahead.Goals as goal

pub returns-in_err-test_live-clause-deeper : goal.returns-in_err-test_live-clause-deeper
returns-in_err-test_live-clause-deeper g c =
    put_deeper (live_of g.P.Pages c.args.pages.now) (g.G.Region.meets_box c.args.region.now) c.args.next.level c.args.next.page c.loop-i.i c.count-i.result c.args.node.now c.args.ahead.now.items
    c.loop-i.ahead.items c.requires.level c.requires.inner c.count-i.ensures.count c.count-i.ensures.range c.loop-i.invariant.put

pub returns-clause-deeper : goal.returns-clause-deeper
returns-clause-deeper g c =
    put_deeper (live_of g.P.Pages c.args.pages.now) (g.G.Region.meets_box c.args.region.now) c.args.next.level c.args.next.page c.loop-i.i c.count-i.result c.args.node.now c.args.ahead.now.items
    c.loop-i.ahead.items c.requires.level c.requires.inner c.count-i.ensures.count c.count-i.ensures.range c.loop-i.invariant.put
