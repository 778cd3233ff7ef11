use Rattle.slot_laws.specs.ChangeLaws.{clearing_removes}
use Rattle.slot_laws.proofs.change_laws.clearing_removes.Goals as goal

pub returns : goal.returns
returns c = clearing_removes
