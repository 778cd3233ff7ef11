use Rattle.spb_defs.specs.CommandLaws.{read_line, line_read}
use Rattle.cmd_grammar.proofs.laws.one_line.Goals as goal

pub returns : goal.returns
returns c = λ space line command fit. (read_line space line command fit, λ h. line_read space line command fit h.0 h.1)
