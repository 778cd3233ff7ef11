-- Entries and their rows.
use Rattle.std.proofs.Common.{◌≡◌, ◌≢◌, ℕ, ◌<◌, ◌^◌, ◌++◌, Bool, true, false, List, [], ◌∷◌, length, sym, ap, ◌∙◌, arith, subst}
use Rattle.std.specs.Prelude.{All, IsTrue, ◌↔◌}
use Rattle.std.proofs.lemmas.List.{length-map, map-append}
use Rattle.std.proofs.lemmas.List.Elements.{All-nil, All-cons, All-tail, All-map}
use Rattle.metrics_builtin.specs.Strings.{IsString}
use Rattle.spb_defs.specs.Scans.{Entry}
use Rattle.pivot_map.specs.Rows.{entry_of, entries_of}
use Rattle.pivot_map.specs.declared.row.Row.{Row}
use Rattle.weighted_hamming.specs.Entries.{IsAddable}

-- no entry of the rows has the id, so no row has it
rows_without : (rows : List Row) (id : ℕ) → All (λ (other : Entry). other.0 ≢ id) (entries_of rows) → All (λ (row : Row). row.id ≢ id) rows
rows_without [] id new = All-nil (λ (row : Row). row.id ≢ id)
rows_without (row ∷ rows) id new =
    All-cons (λ (r : Row). r.id ≢ id) row rows (new 0 (entry_of row) (omega arith))
    (rows_without rows id (All-tail (λ (other : Entry). other.0 ≢ id) (entry_of row) (entries_of rows) new))

-- an id that a row has can't be added
pub taken : (is_new : Bool) (seen rows : List Row) (id : ℕ) →
    (IsTrue is_new ↔ All (λ (row : Row). row.id ≢ id) seen) → seen ≡ rows → is_new ≡ false → All (λ (other : Entry). other.0 ≢ id) (entries_of rows) → ⊥
taken is_new seen rows id test same isnt fresh =
    let yes : is_new ≡ true = test.1 (subst (λ rs. All (λ (row : Row). row.id ≢ id) rs) (sym same) (rows_without rows id fresh)) in
    let clash : false ≡ true = sym isnt ∙ yes in
    cc

-- a string of the length, with an id that no row has, where there is room
pub addable : (len : ℕ) (rows : List Row) (entry : Entry) → IsString len entry.1 → All (λ (row : Row). row.id ≢ entry.0) rows →
    length rows < 2 ^ 31 → IsAddable len (entries_of rows) entry
addable len rows entry string new room = record {
  string = string;
  id = All-map (λ (other : Entry). other.0 ≢ entry.0) entry_of rows new;
  room = omega (arith, room, length-map rows entry_of);
}

-- one row more is one entry more
pub entries-append : (after rows : List Row) (row : Row) (entry : Entry) → after ≡ rows ++ row ∷ [] →
    entry_of row ≡ entry → entries_of after ≡ entries_of rows ++ entry ∷ []
entries-append after rows row entry grown same =
    ap entries_of grown ∙ map-append entry_of rows (row ∷ []) ∙ ap (λ (e : Entry). entries_of rows ++ e ∷ []) same
