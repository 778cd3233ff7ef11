-- Entries that are added one by one.
use Rattle.std.specs.Prelude.{◌≡◌, ◌≢◌, ℕ, ◌^◌, ◌<◌, ◌++◌, [], ◌∷◌, Bool, true, false, List, length, All}
use Rattle.metrics_builtin.specs.Strings.{IsString}
use Rattle.spb_defs.specs.Scans.{Entry}

-- there is room for the entry: its string has `len` bytes, its id is new, and there are fewer than 2^31 entries
pub record IsAddable (len : ℕ) (entries : List Entry) (entry : Entry) : Type 0 where
  pub string : IsString len entry.1
  pub id : All (λ (other : Entry). other.0 ≢ entry.0) entries
  pub room : length entries < 2 ^ 31

-- an addition that is made puts the entry behind the others; one that is refused could not be made, and changes nothing
abbrev pub Adds : Bool → ℕ → Entry → List Entry → List Entry → Type 0
Adds true len entry before after = IsAddable len before entry × (after ≡ before ++ entry ∷ [])
Adds false len entry before after = (IsAddable len before entry → ⊥) × (after ≡ before)
