use Rattle.cmd_grammar.proofs.lines.command_of_two.Goals as goal

pub returns-then-eq-2-clause-proper : goal.returns-then-eq-2-clause-proper
returns-then-eq-2-clause-proper c = c.count.ensures.proper c.args.space.now
