-- Scripts and what they are answered.
use Rattle.std.specs.Prelude.{◌≡◌, ℕ, List, [], ◌∷◌, ◌++◌, codes}
use Rattle.std.specs.List.{flat_map}
use Rattle.metrics_builtin.specs.declared.Space.TheVariants.{L1}
use Rattle.metrics_builtin.specs.Vectors.{object_of_components}
use Rattle.spb_defs.specs.declared.CurveKind.{CurveKind}
use Rattle.spb_defs.specs.State.{State, empty_in_memory, empty_in_file}
use Rattle.spb_defs.specs.Play.{play}

-- a text and its LF
abbrev pub with_lf : List ℕ → List ℕ
with_lf text = text ++ 10 ∷ []

-- from the state on, the lines are given these replies
abbrev pub IsAnswered : State → List (List ℕ) → List (List ℕ) → Type 0
IsAnswered s lines replies = play s (flat_map with_lf lines) ≡ flat_map with_lf replies

-- an empty store of points with two components from 0 to 255, and one that wants this many pivots
abbrev pub plane : State
plane = empty_in_memory (L1 2 255) 0

abbrev pub plane_with : ℕ → State
plane_with pivots = empty_in_memory (L1 2 255) pivots

abbrev pub AreAnswered : List (List ℕ) → List (List ℕ) → Type 0
AreAnswered lines replies = IsAnswered plane lines replies

abbrev pub AreAnsweredWith : ℕ → List (List ℕ) → List (List ℕ) → Type 0
AreAnsweredWith pivots lines replies = IsAnswered (plane_with pivots) lines replies

-- the line, after a first sample, is given the reply, and a further sample comes too late
abbrev pub ClosesSampling : List ℕ → List ℕ → Type 0
ClosesSampling line reply = AreAnswered (codes "sample 0,0" ∷ line ∷ codes "sample 1,1" ∷ []) (codes "ok" ∷ reply ∷ codes "late" ∷ [])

-- three samples, of which 0,0 and then 255,0 are chosen if two are, and what they are answered
abbrev pub three_samples : List (List ℕ)
three_samples = codes "sample 0,0" ∷ codes "sample 255,0" ∷ codes "sample 10,10" ∷ []

abbrev pub thrice_ok : List (List ℕ)
thrice_ok = codes "ok" ∷ codes "ok" ∷ codes "ok" ∷ []

-- an empty store of such points in a file, with the pivots 0,0 and 255,0
abbrev pub plane_in_file : CurveKind → ℕ → State
plane_in_file curve cap = empty_in_file (L1 2 255) curve (object_of_components (0 ∷ 0 ∷ []) ∷ object_of_components (255 ∷ 0 ∷ []) ∷ []) cap
