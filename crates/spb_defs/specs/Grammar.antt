-- The grammar of commands. A line is split at every space, and neighbouring spaces make an empty word.
-- The words are tested in this order: the command and the number of words, the collections from the left,
-- the id or the number, the object. The first that fails is named.
use Rattle.std.specs.Prelude.{ℕ, ◌==◌, List, [], ◌∷◌, Result, Ok, Err, codes, if◌then◌else◌}
use Rattle.std.specs.Option.{ok_or}
use Rattle.std.specs.List.{slice_split}
use Rattle.std.specs.Str.{bytes_eq}
use Rattle.metrics_builtin.specs.declared.Space.{Space}
use Rattle.spb_defs.specs.declared.Command.{Command}
use Rattle.spb_defs.specs.declared.Command.TheVariants.{Sample, Add, Discard, Get, Count, Range, Near, Join}
use Rattle.spb_defs.specs.declared.What.{What}
use Rattle.spb_defs.specs.declared.What.TheVariants as what
use Rattle.spb_defs.specs.Numbers.{at_least, number_within}
use Rattle.spb_defs.specs.ObjectText.{object_of}

-- what is read goes on, and the first failure stays
infixl 10 ◌>>=◌
abbrev pub ◌>>=◌ : {A B : Type 0} → Result A What → (A → Result B What) → Result B What
(Ok x) >>= f = f x
(Err e) >>= f = Err e

abbrev pub collection_in : List ℕ → Result ℕ What
collection_in word = ok_or (number_within 3 word) what.Collection

abbrev pub id_in : List ℕ → Result ℕ What
id_in word = ok_or (number_within 4294967295 word) what.Id

abbrev pub radius_in : List ℕ → Result ℕ What
radius_in word = ok_or (number_within 4294967295 word) what.Number

-- how many ranks are asked for
abbrev pub ranks_in : List ℕ → Result ℕ What
ranks_in word = ok_or (at_least 1 (number_within 65536 word)) what.Number

abbrev pub object_in : Space → List ℕ → Result (List ℕ) What
object_in space word = ok_or (object_of space word) what.Object

unfoldable pub sample_in : Space → List ℕ → Result Command What
sample_in space object = do
  o ← object_in space object
  Ok (Sample o)

unfoldable pub add_in : Space → List ℕ → List ℕ → List ℕ → Result Command What
add_in space collection id object = do
  c ← collection_in collection
  i ← id_in id
  o ← object_in space object
  Ok (Add c i o)

unfoldable pub drop_in : List ℕ → List ℕ → Result Command What
drop_in collection id = do
  c ← collection_in collection
  i ← id_in id
  Ok (Discard c i)

unfoldable pub get_in : List ℕ → List ℕ → Result Command What
get_in collection id = do
  c ← collection_in collection
  i ← id_in id
  Ok (Get c i)

unfoldable pub count_in : List ℕ → Result Command What
count_in collection = do
  c ← collection_in collection
  Ok (Count c)

unfoldable pub range_in : Space → List ℕ → List ℕ → List ℕ → Result Command What
range_in space collection radius object = do
  c ← collection_in collection
  r ← radius_in radius
  o ← object_in space object
  Ok (Range c r o)

unfoldable pub near_in : Space → List ℕ → List ℕ → List ℕ → Result Command What
near_in space collection many object = do
  c ← collection_in collection
  k ← ranks_in many
  o ← object_in space object
  Ok (Near c k o)

unfoldable pub join_in : List ℕ → List ℕ → List ℕ → Result Command What
join_in left right radius = do
  c ← collection_in left
  d ← collection_in right
  r ← radius_in radius
  Ok (Join c d r)

-- the command that the words are
abbrev pub command_in : Space → List (List ℕ) → Result Command What
command_in space (name ∷ first ∷ []) =
    if bytes_eq name (codes "sample") then sample_in space first
    else (if bytes_eq name (codes "count") then count_in first else Err what.Command)
command_in space (name ∷ first ∷ second ∷ []) =
    if bytes_eq name (codes "drop") then drop_in first second
    else (if bytes_eq name (codes "get") then get_in first second else Err what.Command)
command_in space (name ∷ first ∷ second ∷ third ∷ []) =
    if bytes_eq name (codes "add") then add_in space first second third
    else (if bytes_eq name (codes "range") then range_in space first second third
    else (if bytes_eq name (codes "near") then near_in space first second third
    else (if bytes_eq name (codes "join") then join_in first second third else Err what.Command)))
command_in space _ = Err what.Command

-- the command that the line is, or what fails first in it
unfoldable pub command_of : Space → List ℕ → Result Command What
command_of space line = command_in space (slice_split (λ b. b == 32) line)
