use Rattle.hilbert_curve.specs.Rows.{AreRows}
use Rattle.hilbert_curve.proofs.rows.checked.Goals as goal

pub returns-clause-rows : goal.returns-clause-rows
unfolding AreRows
returns-clause-rows g c = c.requires
