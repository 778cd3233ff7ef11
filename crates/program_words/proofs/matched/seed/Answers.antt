use Rattle.std.proofs.Common.{◌∙◌}
use Rattle.program_words.proofs.PlainNumbers.{number_in_64_bits}
use Rattle.program_words.proofs.matched.seed.Goals as goal

pub returns : goal.returns
returns c = c.number.ensures ∙ number_in_64_bits c.args.word.now
