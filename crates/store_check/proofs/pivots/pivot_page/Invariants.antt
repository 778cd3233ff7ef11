use Rattle.std.proofs.Common.{◌≡◌, ℕ, ◌+◌, ◌<◌, [], Some}
use Rattle.std.specs.Prelude.{slice_index_or}
use Rattle.store_check.specs.Pivots.{pivot_in}
use Rattle.store_check.proofs.pivots.pivot_page.Given as goal

-- the records so far are those of the pivots
abbrev pub invariant-loop-place : goal.invariant-loop-place
invariant-loop-place l = (p : ℕ) → p < l.place → pivot_in l.page p ≡ Some (slice_index_or l.pivots (l.first + p) [])
