use Rattle.store_check.proofs.Zeros.{zero_records}
use Rattle.store_check.proofs.laws.zero_records_are_empty.Goals as goal

pub returns : goal.returns
returns c = zero_records
