-- Totals that differ in every number.
use Rattle.trial_script.specs.declared.totals.Totals.{Totals}

abbrev pub counted : Totals
counted = record {
  changes = 1;
  range = record { found = 2; evals = 3; sure = 4 };
  near = record { found = 5; evals = 6; sure = 7 };
  join = record { found = 8; evals = 9; sure = 18446744073709551616 };
}
