use Rattle.open_store.proofs.States.{stored_stands, standing_is_stored}
use Rattle.open_store.proofs.laws.stored_is_standing.Goals as goal

pub returns : goal.returns
returns c = record { stands = stored_stands; stored = standing_is_stored }
