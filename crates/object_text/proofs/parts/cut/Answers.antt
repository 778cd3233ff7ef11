use Rattle.std.proofs.Common.{◌≡◌, ◌==◌, ◌+◌, ◌∷◌, List, ℕ, take, sym, subst}
use Rattle.std.specs.List.{slice_split}
use Rattle.std.proofs.lemmas.List.{take_rest}
use Rattle.object_text.proofs.Cuts.{split-none, split-some}
use Rattle.object_text.proofs.parts.cut.Goals as goal

pub returns-in-Some : goal.returns-in-Some
returns-in-Some c =
    let p = λ (b : ℕ). b == c.args.mark in
    let xs = c.args.text.now in
    subst (λ (rest : List ℕ). slice_split p xs ≡ take c.in-Some.at xs ∷ slice_split p rest) (sym (take_rest xs (c.in-Some.at + 1)))
    (split-some p xs c.in-Some.at (sym c.in-Some.ensures))

pub returns-in-None : goal.returns-in-None
returns-in-None c = split-none (λ b. b == c.args.mark) c.args.text.now (sym c.in-None.ensures)
