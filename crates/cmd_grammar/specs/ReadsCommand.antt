-- What a line is read as.
use Rattle.std.specs.Prelude.{◌≡◌, Result, Ok, Err}
use Rattle.spb_defs.specs.declared.What.{What}
use Rattle.cmd_grammar.specs.declared.lines.LineError.{LineError}
use Rattle.cmd_grammar.specs.declared.lines.LineError.TheVariants as errors

-- The answer is what the definition reads, or what fails first, unless memory ran out.
abbrev pub ReadsCommand : {A : Type 0} → Result A LineError → Result A What → Type 0
ReadsCommand (Ok x) read = read ≡ Ok x
ReadsCommand (Err (errors.Bad failed)) read = read ≡ Err failed
ReadsCommand (Err errors.Memory) read = Unit {0}
