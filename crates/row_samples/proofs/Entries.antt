-- Rows of the entries so far.
use Rattle.std.proofs.Common.{◌≡◌, ℕ, ◌+◌, ◌<◌, List, [], ◌∷◌, ◌++◌, length, get_or, take, sym, ap, ◌∙◌}
use Rattle.std.proofs.lemmas.List.{map-append, take_more}
use Rattle.pivot_map.specs.Rows.{entry_of, entries_of}
use Rattle.pivot_map.specs.declared.row.Row.{Row}

-- one row more
pub entries-more : (rows : List Row) (row : Row) (entries : List (ℕ × List ℕ)) (i : ℕ) (d : ℕ × List ℕ) → i < length entries
    → entry_of row ≡ get_or entries i d → entries_of rows ≡ take i entries → entries_of (rows ++ row ∷ []) ≡ take (i + 1) entries
entries-more rows row entries i d below is so_far =
    map-append entry_of rows (row ∷ [])
    ∙ ap (λ es. es ++ entry_of row ∷ []) so_far
    ∙ ap (λ (e : ℕ × List ℕ). take i entries ++ e ∷ []) is
    ∙ sym (take_more entries i d below)
