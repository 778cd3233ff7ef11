use Rattle.std.proofs.Common.{◌≡◌, [], sym, subst, ◌∙◌, arith}
use Rattle.metrics_builtin.specs.Vectors.{IsVector}
use Rattle.trial_script.proofs.Drawing.{drawn_object-IsValid}
use Rattle.trial_script.proofs.Places.{lines_from-none, lines-given}
use Rattle.trial_script.proofs.lines.TrialLines.next_line.Goals as goal

pub returns-then-self-clause-ok : goal.returns-then-self-clause-ok
returns-then-self-clause-ok c =
    let past = c.if-self.true in
    let inside = c.self.inside in
    let none : c.args.self.now ≡ [] = sym c.self.view_is ∙ lines_from-none inside.draws.state inside.place inside.count (omega (arith, past)) in
    (none, none)

pub write_command-requires-clause-object : goal.write_command-requires-clause-object
write_command-requires-clause-object c =
    subst (IsVector 4 1000) (sym (c.as_slice.ensures ∙ c.in_ok-object.ensures.object)) (drawn_object-IsValid c.self.inside.draws.state 0)

pub returns-clause-ok : goal.returns-clause-ok
returns-clause-ok c =
    let more = c.if-self.false in
    let inside = c.self.inside in (
      lines-given c.args.self.now inside.draws.state inside.place inside.count c.object.new.self.state c.as_slice.result.now c.write_command.new.text
          c.in_ok-text.text (omega (arith, more)) c.self.view_is (c.as_slice.ensures ∙ c.in_ok-object.ensures.object) c.in_ok-object.ensures.state
          c.in_ok-write_command.ensures c.in_ok-text.ensures,
      λ e. cc,
    )
