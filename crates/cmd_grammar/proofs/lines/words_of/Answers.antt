use Rattle.std.proofs.Common.{arith}
use Rattle.cmd_grammar.proofs.FourWords.{length-word, length-words}
use Rattle.cmd_grammar.proofs.lines.words_of.Goals as goal

pub returns-in-Some-cut-3 : goal.returns-in-Some-cut-3
returns-in-Some-cut-3 c =
    let first = length-word c.args.line.now c.in-Some.name.now c.in-Some.rest.now c.in-Some.ensures in
    let second = length-word c.in-Some.rest.now c.in-Some-cut.first.now c.in-Some-cut.rest.now c.in-Some-cut.ensures in
    let third = length-word c.in-Some-cut.rest.now c.in-Some-cut-2.second.now c.in-Some-cut-2.rest.now c.in-Some-cut-2.ensures in
    let fourth = length-word c.in-Some-cut-2.rest.now c.in-Some-cut-3.field-0.0.now c.in-Some-cut-3.field-0.1.now c.in-Some-cut-3.ensures in
    let more = length-words c.in-Some-cut-3.field-0.1.now in (
      λ e. absurd (omega (arith, first, second, third, fourth, more, e)),
      λ e. absurd (omega (arith, first, second, third, fourth, more, e)),
      λ e. absurd (omega (arith, first, second, third, fourth, more, e)),
    )
