use Rattle.std.proofs.Common.{◌≡◌, ◌-◌, ℕ}
use Rattle.page_laws.specs.Pages.{is_among}
use Rattle.free_list.specs.FreeNumbers.{is_within}
use Rattle.store_core.specs.SlotContents.{HasSamePages}
use Rattle.store_core.proofs.slots.free_pages.Given as goal

-- the pages so far are free, and nothing else is changed
abbrev pub invariant-loop-n : goal.invariant-loop-n
invariant-loop-n g l =
    let P = g.P.Pages in
    record {
      freed : (k : ℕ) → is_among k (P.free l.pages) ≡ is_within l.first (l.n - l.first) k;
      same : HasSamePages P.is_known P.has P.in_pool P.is_open P.put_pages P.faults P.calm l.fn.pages l.pages;
    }
