use Rattle.slot_laws.specs.ChangeLaws.{filled_placed, cleared_placed}
use Rattle.slot_laws.specs.PlacedLaws.{placed_here}
use Rattle.store_check.specs.Stands.{placed}
use Rattle.tree_lists.proofs.Changes.{filled-entries, cleared-entries, other-entries, fewer-entries}
use Rattle.std.proofs.Common.{refl}
use Rattle.tree_lists.proofs.laws.lists_follow_slots.Goals as goal

pub returns-clause-filled : goal.returns-clause-filled
returns-clause-filled c = λ key_of cap slot d id object old new more below free sets with rising.
    filled-entries key_of d (placed_here slot d id object) (placed cap old) (placed cap new) more refl (filled_placed cap slot d id object old new below free sets) with rising

pub returns-clause-cleared : goal.returns-clause-cleared
returns-clause-cleared c = λ key_of cap slot d id object old new fewer below is sets with rising.
    cleared-entries key_of d (placed_here slot d id object) (placed cap old) (placed cap new) fewer refl (cleared_placed cap slot d id object old new below is sets) with rising

pub returns-clause-filled_elsewhere : goal.returns-clause-filled_elsewhere
returns-clause-filled_elsewhere c = λ key_of cap slot d other id object old new below free sets apart rising.
    other-entries key_of other (placed_here slot d id object) (placed cap old) (placed cap new) apart (filled_placed cap slot d id object old new below free sets) rising

pub returns-clause-cleared_elsewhere : goal.returns-clause-cleared_elsewhere
returns-clause-cleared_elsewhere c = λ key_of cap slot d other id object old new below is sets apart rising.
    fewer-entries key_of other (placed_here slot d id object) (placed cap old) (placed cap new) apart (cleared_placed cap slot d id object old new below is sets) rising
