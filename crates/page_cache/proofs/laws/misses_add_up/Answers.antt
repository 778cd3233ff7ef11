use Rattle.page_cache.proofs.Histories.{added_up}
use Rattle.page_cache.proofs.laws.misses_add_up.Goals as goal

pub returns : goal.returns
returns c = added_up
