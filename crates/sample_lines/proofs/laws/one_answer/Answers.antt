use Rattle.sample_lines.proofs.OneAnswer.{either_is, not_both, one_list, one_number}
use Rattle.sample_lines.proofs.laws.one_answer.Goals as goal

pub returns : goal.returns
returns c = record { either = either_is; not_both = λ space lines number. not_both space lines number; objects = one_list; number = one_number }
