use Rattle.std.proofs.Common.{◌≡◌, ℕ, ◌<◌, ◌≤◌, [], Some}
use Rattle.store_check.specs.Pivots.{pivot_at}
use Rattle.store_core.specs.Content.{pivot_pages}
use Rattle.store_core.proofs.content.refuse_others.Given as goal

-- the records so far hold nothing
abbrev pub invariant-loop-place : goal.invariant-loop-place
invariant-loop-place l = (k : ℕ) → l.profile.pivots ≤ k → k < l.place → pivot_at (pivot_pages l.pages.first l.pages.second) k ≡ Some []
