-- The rows that the code's macros write: each is computed to be a row of the tables, and that is what the laws of the
-- curve rest on.
use Rattle.std.specs.Prelude.{◌≡◌, ℕ, zero, suc, ◌+◌, ◌-◌, ◌^◌, ◌<◌, ◌≤◌, List, length}
use Rattle.std.proofs.Common.{refl, inl, inr, arith}
use Rattle.std.proofs.lemmas.Bool.{cases_lt}
use Rattle.hilbert_curve.specs.Axes.{for_axes}
use Rattle.hilbert_curve.specs.RowLaws.{IsRow}
use Rattle.hilbert_curve.specs.Rows.{AreRows, row_in}
use Rattle.hilbert_curve.specs.declared.rows.Row.{Row}
use Rattle.hilbert_curve.specs.declared.rows.fn.rows_of_1.TheConstants.{ROWS as table_1}
use Rattle.hilbert_curve.specs.declared.rows.fn.rows_of_2.TheConstants.{ROWS as table_2}
use Rattle.hilbert_curve.specs.declared.rows.fn.rows_of_3.TheConstants.{ROWS as table_3}
use Rattle.hilbert_curve.specs.declared.rows.fn.rows_of_4.TheConstants.{ROWS as table_4}
use Rattle.hilbert_curve.specs.declared.rows.fn.rows_of_5.TheConstants.{ROWS as table_5}
use Rattle.hilbert_curve.specs.declared.rows.fn.rows_of_6_from_0.TheConstants.{ROWS as table_6_from_0}
use Rattle.hilbert_curve.specs.declared.rows.fn.rows_of_6_from_32.TheConstants.{ROWS as table_6_from_32}
use Rattle.hilbert_curve.specs.declared.rows.fn.rows_of_7_from_0.TheConstants.{ROWS as table_7_from_0}
use Rattle.hilbert_curve.specs.declared.rows.fn.rows_of_7_from_32.TheConstants.{ROWS as table_7_from_32}
use Rattle.hilbert_curve.specs.declared.rows.fn.rows_of_7_from_64.TheConstants.{ROWS as table_7_from_64}
use Rattle.hilbert_curve.specs.declared.rows.fn.rows_of_7_from_96.TheConstants.{ROWS as table_7_from_96}
use Rattle.hilbert_curve.specs.declared.rows.fn.rows_of_8_from_0.TheConstants.{ROWS as table_8_from_0}
use Rattle.hilbert_curve.specs.declared.rows.fn.rows_of_8_from_32.TheConstants.{ROWS as table_8_from_32}
use Rattle.hilbert_curve.specs.declared.rows.fn.rows_of_8_from_64.TheConstants.{ROWS as table_8_from_64}
use Rattle.hilbert_curve.specs.declared.rows.fn.rows_of_8_from_96.TheConstants.{ROWS as table_8_from_96}
use Rattle.hilbert_curve.specs.declared.rows.fn.rows_of_8_from_128.TheConstants.{ROWS as table_8_from_128}
use Rattle.hilbert_curve.specs.declared.rows.fn.rows_of_8_from_160.TheConstants.{ROWS as table_8_from_160}
use Rattle.hilbert_curve.specs.declared.rows.fn.rows_of_8_from_192.TheConstants.{ROWS as table_8_from_192}
use Rattle.hilbert_curve.specs.declared.rows.fn.rows_of_8_from_224.TheConstants.{ROWS as table_8_from_224}

-- the rows for n axes from a number on, this many of them
abbrev Rows : ℕ → ℕ → ℕ → Type 0
Rows n first count = (w : ℕ) → first ≤ w → w < first + count → IsRow n w

-- those of one table
in_table : (n first count : ℕ) (rows : List Row) → AreRows n first rows → length rows ≡ count → Rows n first count
in_table n first count rows are long w low high =
    (row_in n first rows (w - first) w record { gray = 0; entry = 0; direction = 0 } are (omega (arith, long, low, high)) (omega (arith, low))).facts

-- and of two, one after the other
joined : (n first k m : ℕ) → Rows n first k → Rows n (first + k) m → Rows n first (k + m)
joined n first k m front rest w low high =
    elim (cases_lt w (first + k)) [
      | inl below ↦ front w low below
      | inr above ↦ rest w (omega (arith, above)) (omega (arith, high))
    ]

-- each table is computed
rows_1 : Rows 1 0 2
unfolding AreRows
rows_1 = in_table 1 0 2 table_1 refl refl

rows_2 : Rows 2 0 4
unfolding AreRows
rows_2 = in_table 2 0 4 table_2 refl refl

rows_3 : Rows 3 0 8
unfolding AreRows
rows_3 = in_table 3 0 8 table_3 refl refl

rows_4 : Rows 4 0 16
unfolding AreRows
rows_4 = in_table 4 0 16 table_4 refl refl

rows_5 : Rows 5 0 32
unfolding AreRows
rows_5 = in_table 5 0 32 table_5 refl refl

rows_6 : Rows 6 0 64
unfolding AreRows
rows_6 = joined 6 0 32 32 (in_table 6 0 32 table_6_from_0 refl refl) (in_table 6 32 32 table_6_from_32 refl refl)

rows_7_to_64 : Rows 7 0 64
unfolding AreRows
rows_7_to_64 = joined 7 0 32 32 (in_table 7 0 32 table_7_from_0 refl refl) (in_table 7 32 32 table_7_from_32 refl refl)

rows_7_from_64 : Rows 7 64 64
unfolding AreRows
rows_7_from_64 = joined 7 64 32 32 (in_table 7 64 32 table_7_from_64 refl refl) (in_table 7 96 32 table_7_from_96 refl refl)

rows_8_to_64 : Rows 8 0 64
unfolding AreRows
rows_8_to_64 = joined 8 0 32 32 (in_table 8 0 32 table_8_from_0 refl refl) (in_table 8 32 32 table_8_from_32 refl refl)

rows_8_from_64 : Rows 8 64 64
unfolding AreRows
rows_8_from_64 = joined 8 64 32 32 (in_table 8 64 32 table_8_from_64 refl refl) (in_table 8 96 32 table_8_from_96 refl refl)

rows_8_from_128 : Rows 8 128 64
unfolding AreRows
rows_8_from_128 = joined 8 128 32 32 (in_table 8 128 32 table_8_from_128 refl refl) (in_table 8 160 32 table_8_from_160 refl refl)

rows_8_from_192 : Rows 8 192 64
unfolding AreRows
rows_8_from_192 = joined 8 192 32 32 (in_table 8 192 32 table_8_from_192 refl refl) (in_table 8 224 32 table_8_from_224 refl refl)

all_rows : (n : ℕ) → 0 < n → n ≤ 8 → Rows n 0 (2 ^ n)
all_rows =
    for_axes (λ n. Rows n 0 (2 ^ n)) rows_1 rows_2 rows_3 rows_4 rows_5 rows_6
    (joined 7 0 64 64 rows_7_to_64 rows_7_from_64)
    (joined 8 0 128 128 (joined 8 0 64 64 rows_8_to_64 rows_8_from_64) (joined 8 128 64 64 rows_8_from_128 rows_8_from_192))

-- each row of each table
pub row : (n w : ℕ) → 0 < n → n ≤ 8 → w < 2 ^ n → IsRow n w
row n w some few l = all_rows n some few w (omega arith) (omega (arith, l))
