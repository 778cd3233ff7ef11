use Rattle.store_core.proofs.StartedImages.{stored_stands}
use Rattle.store_core.proofs.opened_laws.opened_or_damaged.Goals as goal

pub returns : goal.returns
returns c = record {
  stands = stored_stands;
  only = λ image s t stored stands. c.one_state.ensures image t s stands (stored_stands image s stored);
  damaged = λ image n broken s refused stands. c.breaks_refute.ensures image n broken s refused.1 stands;
}
