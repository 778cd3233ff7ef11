use Rattle.store_check.proofs.Reading.{read_in_range}
use Rattle.store_check.proofs.laws.read_profiles_are_in_range.Goals as goal

pub returns : goal.returns
returns c = read_in_range
