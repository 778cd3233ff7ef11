use Rattle.store_core.proofs.StartedImages.{is_opened}
use Rattle.store_core.proofs.opened_laws.started_is_opened.Goals as goal

pub returns : goal.returns
returns c = is_opened
