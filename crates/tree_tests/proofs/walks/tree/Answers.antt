use Rattle.std.proofs.Common.{ℕ, Bool, ap, ◌∙◌}
use Rattle.tree_tests.proofs.walks.tree.Goals as goal

pub put-requires-clause-there : goal.put-requires-clause-there
put-requires-clause-there c = ap (λ (there : ℕ → Bool). there 1) c.in_ok-pages.ensures

pub put-requires-2-clause-there : goal.put-requires-2-clause-there
put-requires-2-clause-there c = ap (λ (there : ℕ → Bool). there 2) (c.put.ensures.map.0 ∙ c.in_ok-pages.ensures)

pub put-requires-3-clause-there : goal.put-requires-3-clause-there
put-requires-3-clause-there c = ap (λ (there : ℕ → Bool). there 3) (c.put-2.ensures.map.0 ∙ c.put.ensures.map.0 ∙ c.in_ok-pages.ensures)
