use Rattle.store_check.proofs.Standing.{filled, held, once}
use Rattle.store_check.proofs.laws.slots_hold_members.Goals as goal

pub returns : goal.returns
returns c = record { filled = filled; held = held; once = once }
