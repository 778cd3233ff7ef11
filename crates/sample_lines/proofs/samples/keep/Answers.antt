use Rattle.std.proofs.Common.{rules, ◌∙◌}
use Rattle.sample_lines.proofs.Keeping.{first_kept-full, first_kept-room}
use Rattle.sample_lines.proofs.samples.keep.Goals as goal

pub returns-then-is_full-clause-first : goal.returns-then-is_full-clause-first
returns-then-is_full-clause-first c = λ objects is. first_kept-full objects c.args.kept.now.items c.args.object is (search rules)

pub returns-clause-first : goal.returns-clause-first
returns-clause-first c = λ objects is.
    c.in_ok-push.ensures.items ∙ first_kept-room objects c.args.kept.now.items c.args.object is (search rules)
