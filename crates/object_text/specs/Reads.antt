-- What a text is read as.
use Rattle.std.specs.Prelude.{◌≡◌, ℕ, List, Option, Some, None, Result, Ok, Err}
use Rattle.object_text.specs.declared.objects.TextError.{TextError}
use Rattle.object_text.specs.declared.objects.TextError.TheVariants as errors

-- The answer is what the definition reads, and `BadObject` if it reads nothing, unless memory ran out.
abbrev pub ReadsObject : Result (List ℕ) TextError → Option (List ℕ) → Type 0
ReadsObject (Ok object) read = read ≡ Some object
ReadsObject (Err errors.BadObject) read = read ≡ None
ReadsObject (Err errors.Memory) read = Unit {0}
