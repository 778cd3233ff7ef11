use Rattle.cmd_grammar.proofs.lines.command_of_four.Goals as goal

pub returns-then-eq-4-clause-proper : goal.returns-then-eq-4-clause-proper
returns-then-eq-4-clause-proper c = c.join.ensures.proper c.args.space.now
