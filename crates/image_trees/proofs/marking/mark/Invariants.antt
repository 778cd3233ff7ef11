use Rattle.std.proofs.Common.{◌≡◌, ℕ, ◌&&◌, ◌||◌, take}
use Rattle.std.specs.Prelude.{nat_lt}
use Rattle.page_laws.specs.Pages.{is_among}
use Rattle.tree_check.specs.PageSets.{has, HasSameRange}
use Rattle.image_trees.specs.Trees.{slots_of}
use Rattle.image_trees.proofs.marking.mark.Given as goal

-- the slots of the entries so far are marked
abbrev pub invariant-loop-i : goal.invariant-loop-i
invariant-loop-i l = record {
  named : (m : ℕ) → has l.named m ≡ (has l.fn.named m || (nat_lt m l.cap && is_among m (slots_of (take l.i l.entries))));
  range : HasSameRange l.fn.named l.named;
}
