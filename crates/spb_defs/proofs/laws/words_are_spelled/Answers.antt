use Rattle.spb_defs.proofs.Spelling.{both_ways}
use Rattle.spb_defs.proofs.laws.words_are_spelled.Goals as goal

pub returns : goal.returns
returns c = both_ways
