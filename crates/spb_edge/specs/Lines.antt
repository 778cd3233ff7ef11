-- The lines of a byte stream. A line ends at the byte LF, which isn't part of it; the bytes after the
-- last LF are a line if there are any.
use Rattle.std.specs.Prelude.{◌≡◌, ℕ, Bool, false, nat_le, ◌==◌, if◌then◌else◌, List, [], ◌∷◌, length, map}
use Rattle.std.specs.List.{slice_split, All}
use Rattle.spb_edge.specs.declared.reader.Line.{Line}
use Rattle.spb_edge.specs.declared.reader.Line.TheVariants.{Text, Long}

-- whether a byte is LF
abbrev pub is_lf : ℕ → Bool
is_lf b = b == 10

-- no byte is LF
abbrev pub HasNoLf : List ℕ → Type 0
HasNoLf bytes = All (λ b. is_lf b ≡ false) bytes

-- the pieces, without the last one if it is empty
abbrev pub without_empty_end : List (List ℕ) → List (List ℕ)
without_empty_end [] = []
without_empty_end (piece ∷ []) = if length piece == 0 then [] else piece ∷ []
without_empty_end (piece ∷ next ∷ more) = piece ∷ without_empty_end (next ∷ more)

-- a piece as a line: its text, or Long if it is over the limit
abbrev pub line_of : ℕ → List ℕ → Line
line_of limit piece = if nat_le (length piece) limit then Text piece else Long

-- the lines of a stream
unfoldable pub lines_of : ℕ → List ℕ → List Line
lines_of limit bytes = map (line_of limit) (without_empty_end (slice_split is_lf bytes))

-- all items but the last
abbrev pub all_but_last : List (List ℕ) → List (List ℕ)
all_but_last [] = []
all_but_last (piece ∷ []) = []
all_but_last (piece ∷ next ∷ more) = piece ∷ all_but_last (next ∷ more)

-- the lines that an LF ends
unfoldable pub ended_lines : ℕ → List ℕ → List Line
ended_lines limit bytes = map (line_of limit) (all_but_last (slice_split is_lf bytes))
