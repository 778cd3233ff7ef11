use Rattle.std.proofs.Common.{◌≡◌, ◌+◌, ◌-◌, ◌≤◌, length, drop}
use Rattle.bptree_node.specs.Nodes.{branches_of, row_count}
use Rattle.bptree_walk.specs.Visits.{followed, ArePut}
use Rattle.bptree_walk.proofs.Staying.{live_of}
use Rattle.bptree_walk.proofs.visit.put_ahead.Given as goal

abbrev pub invariant-loop-i : goal.invariant-loop-i
invariant-loop-i g l = record {
  put : ArePut (live_of g.P.Pages l.pages) (followed (g.G.Region.meets_box l.region) (l.next.level - 1) l.next.page (drop l.i (branches_of l.node))) l.fn.ahead.items l.ahead.items;
  few : length l.ahead.items + l.i ≤ length l.fn.ahead.items + row_count l.node;
  capacity : l.ahead.capacity ≡ l.fn.ahead.capacity;
}
