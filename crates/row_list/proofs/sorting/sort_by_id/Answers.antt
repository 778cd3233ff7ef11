use Rattle.std.proofs.Common.{rules, ◌≡◌}
use Rattle.std.proofs.lemmas.Fn.{always_returns_same}
use Rattle.std.proofs.lemmas.List.Sorted.{IsNonDecreasingBy-from_sort_by_key}
use Rattle.row_list.specs.Slotted.{id_of}
use Rattle.row_list.proofs.sorting.sort_by_id.Goals as goal

pub returns-clause-order : goal.returns-clause-order
returns-clause-order c = IsNonDecreasingBy-from_sort_by_key id_of _ c.in_ok-sort_by_key.ensures.sorted (λ a r f' k. search rules)

pub returns-clause-stable : goal.returns-clause-stable
returns-clause-stable c = c.sort_by_key.ensures.stable id_of (always_returns_same _ (λ a r. r ≡ id_of a.0.now) _ (λ a r f' k. search rules))
