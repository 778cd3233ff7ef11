-- The words of a line.
use Rattle.std.specs.Prelude.{◌≡◌, ℕ, List, [], ◌∷◌, length}
use Rattle.cmd_grammar.specs.declared.lines.Words.{Words}
use Rattle.cmd_grammar.specs.declared.lines.Words.TheVariants.{Two, Three, Four, Others}

-- these are the words of a line of two, three or four, or there are fewer or more
abbrev pub AreWords : Words → List (List ℕ) → Type 0
AreWords (Two name first) words = words ≡ name.now ∷ first.now ∷ []
AreWords (Three name first second) words = words ≡ name.now ∷ first.now ∷ second.now ∷ []
AreWords (Four name first second third) words = words ≡ name.now ∷ first.now ∷ second.now ∷ third.now ∷ []
AreWords Others words = (length words ≡ 2 → ⊥) × (length words ≡ 3 → ⊥) × (length words ≡ 4 → ⊥)
