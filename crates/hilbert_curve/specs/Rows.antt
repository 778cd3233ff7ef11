-- Rows of a table, and the test that they are those from a number on.
use Rattle.std.specs.Prelude.{◌≡◌, ℕ, zero, suc, ◌+◌, ◌<◌, Bool, true, ◌&&◌, List, [], ◌∷◌, length, get_or}
use Rattle.std.proofs.Common.{sym, ap, ◌∙◌, arith}
use Rattle.std.proofs.lemmas.Bool.{and_parts}
use Rattle.hilbert_curve.specs.Tables.{is_row}
use Rattle.hilbert_curve.specs.RowLaws.{IsTableRow, table_row}
use Rattle.hilbert_curve.specs.declared.rows.Row.{Row}

-- whether these are the rows from w on of the tables for n
abbrev pub are_rows : ℕ → ℕ → List Row → Bool
are_rows n w [] = true
are_rows n w (row ∷ rows) = is_row n w row.gray row.entry row.direction && are_rows n (w + 1) rows

-- each is then a row
row_of_rows : (n w : ℕ) (rows : List Row) (i : ℕ) (d : Row) → are_rows n w rows ≡ true → i < length rows →
    is_row n (w + i) (get_or rows i d).gray (get_or rows i d).entry (get_or rows i d).direction ≡ true
row_of_rows n w [] i d h l = absurd (omega arith)
row_of_rows n w (row ∷ rows) zero d h l =
    ap (λ k. is_row n k row.gray row.entry row.direction) (omega arith)
    ∙ (and_parts (is_row n w row.gray row.entry row.direction) (are_rows n (w + 1) rows) h).0
row_of_rows n w (row ∷ rows) (suc i) d h l =
    ap (λ k. is_row n k (get_or rows i d).gray (get_or rows i d).entry (get_or rows i d).direction) (omega arith)
    ∙ row_of_rows n (w + 1) rows i d (and_parts (is_row n w row.gray row.entry row.direction) (are_rows n (w + 1) rows) h).1 (omega arith)

-- these are the rows from w on of the tables for n
unfoldable pub AreRows : ℕ → ℕ → List Row → Type 0
AreRows n w rows = are_rows n w rows ≡ true

-- each of them is then the row of its group
pub row_in : (n w : ℕ) (rows : List Row) (i group : ℕ) (d : Row) → AreRows n w rows → i < length rows → w + i ≡ group →
    IsTableRow n group (get_or rows i d).gray (get_or rows i d).entry (get_or rows i d).direction
unfolding AreRows
row_in n w rows i group d h l e =
    let row = get_or rows i d in
    table_row n group row.gray row.entry row.direction
    (ap (λ k. is_row n k row.gray row.entry row.direction) (sym e) ∙ row_of_rows n w rows i d h l)
