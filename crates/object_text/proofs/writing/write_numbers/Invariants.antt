use Rattle.std.proofs.Common.{◌≡◌, ◌++◌, take}
use Rattle.metrics_builtin.specs.Vectors.{components}
use Rattle.spb_defs.specs.ObjectText.{numbers_text}
use Rattle.object_text.proofs.writing.write_numbers.Given as goal

-- the numbers so far are written
abbrev pub invariant-loop-place : goal.invariant-loop-place
invariant-loop-place l = l.text ≡ l.fn.text ++ numbers_text (take l.place (components l.object))
