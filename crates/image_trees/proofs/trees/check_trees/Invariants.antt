use Rattle.std.proofs.Common.{◌≤◌, IsTrue}
use Rattle.bptree_walk.proofs.Staying.{Stay, live_of}
use Rattle.tree_check.specs.PageSets.{HasSameRange}
use Rattle.image_trees.proofs.Gathering.{Are}
use Rattle.image_trees.proofs.trees.check_trees.Given as goal

-- the trees so far are matched, and the pages are as they were
abbrev pub invariant-loop-c : goal.invariant-loop-c
invariant-loop-c g l = record {
  trees : IsTrue (g.P.Pages.is_known l.fn.pages)
      → Are g.S.Summary.joined (g.F.Boxes.entry_box l.boxes) (g.F.Boxes.keys_of l.boxes) l.notes l.by_key (g.P.Pages.page_at l.fn.pages) (live_of g.P.Pages l.fn.pages)
      l.roots l.first l.cap l.fn.used l.fn.named l.c l.used l.named;
  used : HasSameRange l.fn.used l.used;
  named : HasSameRange l.fn.named l.named;
  stay : Stay g.P.Pages l.fn.pages l.pages;
  later : g.P.Pages.faults l.fn.pages ≤ g.P.Pages.faults l.pages;
}
