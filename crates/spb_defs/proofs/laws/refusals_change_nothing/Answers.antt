use Rattle.spb_defs.proofs.Refusals.{refused_command, refused_other}
use Rattle.spb_defs.proofs.laws.refusals_change_nothing.Goals as goal

pub returns : goal.returns
returns c = record { command = refused_command; other = refused_other }
