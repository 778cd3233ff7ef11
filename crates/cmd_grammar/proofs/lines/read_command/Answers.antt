use Rattle.std.proofs.Common.{◌∷◌, []}
use Rattle.cmd_grammar.proofs.FourWords.{command_of-other, command_of-words}
use Rattle.cmd_grammar.proofs.lines.read_command.Goals as goal

pub returns-in-Two-clause-exact : goal.returns-in-Two-clause-exact
returns-in-Two-clause-exact c =
    command_of-words c.args.space.now c.args.line.now (c.in-Two.name.now ∷ c.in-Two.first.now ∷ [])
    c.command_of_two.result c.in-Two.ensures c.command_of_two.ensures.exact

pub returns-in-Three-clause-exact : goal.returns-in-Three-clause-exact
returns-in-Three-clause-exact c =
    command_of-words c.args.space.now c.args.line.now (c.in-Three.name.now ∷ c.in-Three.first.now ∷ c.in-Three.second.now ∷ [])
    c.command_of_three.result c.in-Three.ensures (c.command_of_three.ensures.exact c.args.space.now)

pub returns-in-Three-clause-proper : goal.returns-in-Three-clause-proper
returns-in-Three-clause-proper c = c.command_of_three.ensures.proper c.args.space.now

pub returns-in-Four-clause-exact : goal.returns-in-Four-clause-exact
returns-in-Four-clause-exact c =
    command_of-words c.args.space.now c.args.line.now (c.in-Four.name.now ∷ c.in-Four.first.now ∷ c.in-Four.second.now ∷ c.in-Four.third.now ∷ [])
    c.command_of_four.result c.in-Four.ensures c.command_of_four.ensures.exact

pub returns-in-Others-clause-exact : goal.returns-in-Others-clause-exact
returns-in-Others-clause-exact c = command_of-other c.args.space.now c.args.line.now c.in-Others.ensures.0 c.in-Others.ensures.1 c.in-Others.ensures.2
