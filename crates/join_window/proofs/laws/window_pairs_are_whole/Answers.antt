use Rattle.std.proofs.Common.{refl}
use Rattle.std.specs.Prelude.{not}
use Rattle.std.proofs.lemmas.List.Sorted.{IsPermutation-filter_both}
use Rattle.join_window.specs.WindowPairs.{is_window_pair, ordered_pairs}
use Rattle.join_window.proofs.Holding.{pairs-next}
use Rattle.join_window.proofs.laws.window_pairs_are_whole.Goals as goal

pub returns-clause-next : goal.returns-clause-next
returns-clause-next c = pairs-next

pub returns-clause-parted : goal.returns-clause-parted
returns-clause-parted c = λ entries. IsPermutation-filter_both is_window_pair (λ p. not (is_window_pair p)) (λ p. refl) (ordered_pairs entries)
