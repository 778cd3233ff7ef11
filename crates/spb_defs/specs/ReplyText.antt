-- The text of a reply: one line with its LF.
use Rattle.std.specs.Prelude.{ℕ, List, [], ◌∷◌, ◌++◌, length, codes}
use Rattle.std.specs.List.{flat_map}
use Rattle.std.specs.Fmt.{decimal}
use Rattle.spb_defs.specs.declared.Reply.{Reply}
use Rattle.spb_defs.specs.declared.Reply.TheVariants.{Done, Exists, Absent, Full, Curve, Late, Object, Count, Range, Near, Join, Bad, Long}
use Rattle.metrics_builtin.specs.declared.Space.{Space}
use Rattle.spb_defs.specs.ObjectText.{text_of}
use Rattle.spb_defs.specs.declared.What.{What}
use Rattle.spb_defs.specs.declared.What.TheVariants as what

abbrev pub name_of : What → List ℕ
name_of what.Command = codes "command"
name_of what.Collection = codes "collection"
name_of what.Id = codes "id"
name_of what.Number = codes "number"
name_of what.Object = codes "object"

-- an item of an answer comes after a space
abbrev pub id_text : ℕ → List ℕ
id_text id = 32 ∷ decimal id

-- a rank is written as its id and its distance
abbrev pub rank_text : ℕ × ℕ → List ℕ
rank_text rank = 32 ∷ decimal rank.1 ++ 64 ∷ decimal rank.0

abbrev pub pair_text : ℕ × ℕ → List ℕ
pair_text pair = 32 ∷ decimal pair.0 ++ 45 ∷ decimal pair.1

abbrev pub range_text : List ℕ → ℕ → ℕ → List ℕ
range_text ids evals sure =
    codes "range " ++ decimal (length ids) ++ codes " evals " ++ decimal evals ++ codes " sure " ++ decimal sure ++ codes ":"
    ++ flat_map id_text ids

abbrev pub near_text : List (ℕ × ℕ) → ℕ → List ℕ
near_text rows evals = codes "near " ++ decimal (length rows) ++ codes " evals " ++ decimal evals ++ codes ":" ++ flat_map rank_text rows

abbrev pub join_text : List (ℕ × ℕ) → ℕ → ℕ → List ℕ
join_text pairs evals sure =
    codes "join " ++ decimal (length pairs) ++ codes " evals " ++ decimal evals ++ codes " sure " ++ decimal sure ++ codes ":"
    ++ flat_map pair_text pairs

-- the line without its LF
abbrev pub line_without_lf : Space → Reply → List ℕ
line_without_lf space Done = codes "ok"
line_without_lf space Exists = codes "exists"
line_without_lf space Absent = codes "absent"
line_without_lf space Full = codes "full"
line_without_lf space Curve = codes "curve"
line_without_lf space Late = codes "late"
line_without_lf space (Object object) = codes "object " ++ text_of space object
line_without_lf space (Count many) = codes "count " ++ decimal many
line_without_lf space (Range ids evals sure) = range_text ids evals sure
line_without_lf space (Near rows evals) = near_text rows evals
line_without_lf space (Join pairs evals sure) = join_text pairs evals sure
line_without_lf space (Bad failed) = codes "bad " ++ name_of failed
line_without_lf space Long = codes "long"

unfoldable pub reply_text : Space → Reply → List ℕ
reply_text space reply = line_without_lf space reply ++ 10 ∷ []
