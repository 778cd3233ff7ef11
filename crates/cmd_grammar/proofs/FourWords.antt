-- What isn't two, three or four words.
use Rattle.std.proofs.Common.{◌≡◌, ℕ, ◌+◌, ◌<◌, ◌==◌, List, [], ◌∷◌, length, map, refl, sym, ap, subst, arith, suc}
use Rattle.std.specs.Prelude.{Result, Err}
use Rattle.std.specs.List.{slice_split, count_by}
use Rattle.std.proofs.lemmas.List.Splits.{length-slice_split}
use Rattle.metrics_builtin.specs.declared.Space.{Space}
use Rattle.spb_defs.specs.declared.Command.{Command}
use Rattle.spb_defs.specs.declared.What.TheVariants as what
use Rattle.spb_defs.specs.Grammar.{command_in, command_of}
use Rattle.cmd_grammar.specs.declared.lines.LineError.{LineError}
use Rattle.cmd_grammar.specs.ReadsCommand.{ReadsCommand}

command_in-other : (space : Space) (words : List (List ℕ)) → (length words ≡ 2 → ⊥) → (length words ≡ 3 → ⊥) → (length words ≡ 4 → ⊥)
    → command_in space words ≡ Err what.Command
command_in-other space [] two three four = refl
command_in-other space (a ∷ []) two three four = refl
command_in-other space (a ∷ b ∷ []) two three four = absurd (two refl)
command_in-other space (a ∷ b ∷ c ∷ []) two three four = absurd (three refl)
command_in-other space (a ∷ b ∷ c ∷ d ∷ []) two three four = absurd (four refl)
command_in-other space (a ∷ b ∷ c ∷ d ∷ e ∷ rest) two three four = refl

pub command_of-other : (space : Space) (line : List ℕ) → (length (slice_split (λ b. b == 32) line) ≡ 2 → ⊥)
    → (length (slice_split (λ b. b == 32) line) ≡ 3 → ⊥) → (length (slice_split (λ b. b == 32) line) ≡ 4 → ⊥) → command_of space line ≡ Err what.Command
unfolding command_of
command_of-other space line two three four = command_in-other space (slice_split (λ b. b == 32) line) two three four

pub command_of-words : (space : Space) (line : List ℕ) (words : List (List ℕ)) (answer : Result Command LineError) → slice_split (λ b. b == 32) line ≡ words
    → ReadsCommand answer (command_in space words) → ReadsCommand answer (command_of space line)
unfolding command_of
command_of-words space line words answer e h = subst (λ (ws : List (List ℕ)). ReadsCommand answer (command_in space ws)) (sym e) h

-- how many words there are if this word is the last
pub length-word : (line word rest : List ℕ) → slice_split (λ x. x == 32) line ≡ word ∷ slice_split (λ x. x == 32) rest
    → length (slice_split (λ x. x == 32) line) ≡ length (slice_split (λ x. x == 32) rest) + 1
length-word line word rest e = let l : length (slice_split (λ x. x == 32) line) ≡ suc (length (slice_split (λ x. x == 32) rest)) = ap length e in
    omega (arith, l)

pub length-words : (line : List ℕ) → 0 < length (slice_split (λ x. x == 32) line)
length-words line = let many : length (slice_split (λ x. x == 32) line) ≡ count_by (λ x. x == 32) line + 1 = length-slice_split (λ x. x == 32) line in
    omega (arith, many)
