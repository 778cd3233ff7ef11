-- The commands that there are, and the one line of each.
use Rattle.std.specs.Prelude.{ℕ, ◌^◌, ◌<◌, ◌≤◌, List, [], ◌∷◌, codes}
use Rattle.std.specs.Fmt.{decimal}
use Rattle.std.specs.List.{join_with_byte}
use Rattle.metrics_builtin.specs.declared.Space.{Space}
use Rattle.metrics_builtin.specs.Space.{IsValid}
use Rattle.spb_defs.specs.ObjectText.{text_of}
use Rattle.spb_defs.specs.declared.Command.{Command}
use Rattle.spb_defs.specs.declared.Command.TheVariants.{Sample, Add, Discard, Get, Count, Range, Near, Join}

-- the collections are among the four, the id or the number is in its range, and the object is the space's
abbrev pub IsWellFormed : Space → Command → Type 0
IsWellFormed space (Sample object) = IsValid space object
IsWellFormed space (Add c id object) = (c < 4) × (id < 2 ^ 32) × IsValid space object
IsWellFormed space (Discard c id) = (c < 4) × (id < 2 ^ 32)
IsWellFormed space (Get c id) = (c < 4) × (id < 2 ^ 32)
IsWellFormed space (Count c) = c < 4
IsWellFormed space (Range c r object) = (c < 4) × (r < 2 ^ 32) × IsValid space object
IsWellFormed space (Near c k object) = (c < 4) × ((1 ≤ k) × (k ≤ 65536)) × IsValid space object
IsWellFormed space (Join c d r) = (c < 4) × (d < 4) × (r < 2 ^ 32)

-- its name, the collections, the id or the number, the object
abbrev pub words_of : Space → Command → List (List ℕ)
words_of space (Sample object) = codes "sample" ∷ text_of space object ∷ []
words_of space (Add c id object) = codes "add" ∷ decimal c ∷ decimal id ∷ text_of space object ∷ []
words_of space (Discard c id) = codes "drop" ∷ decimal c ∷ decimal id ∷ []
words_of space (Get c id) = codes "get" ∷ decimal c ∷ decimal id ∷ []
words_of space (Count c) = codes "count" ∷ decimal c ∷ []
words_of space (Range c r object) = codes "range" ∷ decimal c ∷ decimal r ∷ text_of space object ∷ []
words_of space (Near c k object) = codes "near" ∷ decimal c ∷ decimal k ∷ text_of space object ∷ []
words_of space (Join c d r) = codes "join" ∷ decimal c ∷ decimal d ∷ decimal r ∷ []

-- the words with a space between them
abbrev pub command_text : Space → Command → List ℕ
command_text space command = join_with_byte 32 (words_of space command)
