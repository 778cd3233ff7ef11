use Rattle.std.proofs.Common.{get_or}
use Rattle.trial_script.specs.Script.{trial_commands}
use Rattle.trial_script.proofs.Commands.{commands-proper, command-read, trial_script-lines}
use Rattle.trial_script.proofs.laws.lines_are_commands.Goals as goal

pub returns-clause-proper : goal.returns-clause-proper
returns-clause-proper c = commands-proper

pub returns-clause-read : goal.returns-clause-read
returns-clause-read c = λ seed count small k d less. command-read (get_or (trial_commands seed count) k d) (commands-proper seed count small k d less)

pub returns-clause-script : goal.returns-clause-script
returns-clause-script c = trial_script-lines
