-- The lines of a stream, taken off its start one by one.
use Rattle.std.proofs.Common.{◌≡◌, ℕ, ◌<◌, Bool, false, List, [], ◌∷◌, ◌++◌, length, map, refl, sym, ap, ◌∙◌, arith}
use Rattle.std.specs.Prelude.{◌==◌, if◌then◌else◌}
use Rattle.std.specs.List.{slice_split}
use Rattle.std.proofs.lemmas.List.Splits.{slice_split_at, slice_split_none, length-slice_split}
use Rattle.std.proofs.lemmas.Bool.Decides.{nat_tests}
use Rattle.spb_edge.specs.Lines.{is_lf, HasNoLf, without_empty_end, line_of, lines_of, all_but_last, ended_lines}

-- a list that isn't empty has a first item
first_of : (parts : List (List ℕ)) → 0 < length parts → (piece : List ℕ) × (pieces : List (List ℕ)) × (parts ≡ piece ∷ pieces)
first_of [] some = absurd (omega arith)
first_of (piece ∷ pieces) some = (piece, pieces, refl)

-- a split has a first part
parts_of : (bytes : List ℕ) → (piece : List ℕ) × (pieces : List (List ℕ)) × (slice_split is_lf bytes ≡ piece ∷ pieces)
parts_of bytes = first_of (slice_split is_lf bytes) (omega (arith, length-slice_split is_lf bytes))

pub lines_of-nil : (limit : ℕ) → lines_of limit [] ≡ []
unfolding lines_of
lines_of-nil limit = refl

-- a line that an LF ends
pub lines_of-ended : (limit : ℕ) (piece rest : List ℕ) → HasNoLf piece → lines_of limit (piece ++ 10 ∷ rest) ≡ line_of limit piece ∷ lines_of limit rest
unfolding lines_of
lines_of-ended limit piece rest none =
    let p = parts_of rest in
    let cut = slice_split_at is_lf piece 10 rest none refl in
    ap (λ parts. map (line_of limit) (without_empty_end parts)) (cut ∙ ap (λ parts. piece ∷ parts) p.2)
    ∙ ap (λ parts. line_of limit piece ∷ map (line_of limit) (without_empty_end parts)) (sym p.2)

-- the line at the end of the stream, without an LF
pub lines_of-last : (limit : ℕ) (piece : List ℕ) → HasNoLf piece → 0 < length piece → lines_of limit piece ≡ line_of limit piece ∷ []
unfolding lines_of
lines_of-last limit piece none some =
    let filled : (length piece == 0) ≡ false = grind (arith, nat_tests) in
    ap (λ parts. map (line_of limit) (without_empty_end parts)) (slice_split_none is_lf piece none)
    ∙ ap (λ (b : Bool). map (line_of limit) (if b then [] else piece ∷ [])) filled

-- ---- the lines that an LF ends

pub ended_lines-ended : (limit : ℕ) (piece rest : List ℕ) → HasNoLf piece
    → ended_lines limit (piece ++ 10 ∷ rest) ≡ line_of limit piece ∷ ended_lines limit rest
unfolding ended_lines
ended_lines-ended limit piece rest none =
    let p = parts_of rest in
    let cut = slice_split_at is_lf piece 10 rest none refl in
    ap (λ parts. map (line_of limit) (all_but_last parts)) (cut ∙ ap (λ parts. piece ∷ parts) p.2)
    ∙ ap (λ parts. line_of limit piece ∷ map (line_of limit) (all_but_last parts)) (sym p.2)

pub ended_lines-none : (limit : ℕ) (piece : List ℕ) → HasNoLf piece → ended_lines limit piece ≡ []
unfolding ended_lines
ended_lines-none limit piece none = ap (λ parts. map (line_of limit) (all_but_last parts)) (slice_split_none is_lf piece none)
