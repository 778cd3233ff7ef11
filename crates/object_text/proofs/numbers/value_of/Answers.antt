use Rattle.std.proofs.Common.{sym, ◌∙◌, rules}
use Rattle.object_text.proofs.Numerals.{number_of-empty, number_of-zero, number_of-spare_zero, number_of-digits}
use Rattle.object_text.proofs.numbers.value_of.Goals as goal

pub returns-in_err-first : goal.returns-in_err-first
returns-in_err-first c = rw c.from_residual.ensures (sym (number_of-empty c.args.word.now c.in_err-first.ensures.item.3))

pub returns-then-word-eq1 : goal.returns-then-word-eq1
returns-then-word-eq1 c = sym (number_of-zero c.args.word.now (sym (c.in_ok-first.ensures.item.3.1 0) ∙ c.if-first-eq48.true) c.if-word-eq1.true)

pub returns-else-word-eq1 : goal.returns-else-word-eq1
returns-else-word-eq1 c = sym (number_of-spare_zero c.args.word.now (sym (c.in_ok-first.ensures.item.3.1 0) ∙ c.if-first-eq48.true) c.if-word-eq1.false)

pub returns : goal.returns
returns c =
    number_of-digits c.args.word.now c.value_of_digits.result c.in_ok-first.ensures.item.3.0
    (λ e. c.if-first-eq48.false (c.in_ok-first.ensures.item.3.1 0 ∙ e)) (search rules) c.value_of_digits.ensures
