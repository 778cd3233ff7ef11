-- What every call on a ruler promises, whatever it answers.
use Rattle.std.specs.Prelude.{◌≡◌, ◌≤◌, ℕ}

module _ {R K : Type 0} (kind : R → K) (count : R → ℕ) where
  -- the ruler measures the same objects by the same distance, and its count hasn't fallen
  abbrev pub RulerContinues : R → R → Type 0
  RulerContinues old new = (kind new ≡ kind old) × (count old ≤ count new)
