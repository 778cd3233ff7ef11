use Rattle.store_core.specs.Content.{pivot_pages, HoldsSoFar}
use Rattle.store_core.proofs.content.pivots_of.Given as goal

-- the records so far hold the pivots so far, which are objects of the space
abbrev pub invariant-loop-place : goal.invariant-loop-place
invariant-loop-place l = HoldsSoFar l.profile.space (pivot_pages l.pages.first l.pages.second) l.place l.pivots.items
