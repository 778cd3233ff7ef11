use Rattle.std.proofs.Common.{◌≡◌, ℕ, [], ◌∷◌, ◌++◌, List, refl, ap, ◌∙◌}
use Rattle.std.specs.Prelude.{codes}
use Rattle.std.specs.Fmt.{decimal}
use Rattle.std.proofs.lemmas.Result.{on_ok_weaker}
use Rattle.trial_script.specs.Totals.{summary_text, found_text, sure_text}
use Rattle.trial_script.proofs.totals.Totals.write_summary.Goals as goal

-- six texts after the old one, one by one or joined
six : (old a b c d e f : List ℕ) → old ++ a ++ b ++ c ++ d ++ e ++ f ≡ old ++ (a ++ b ++ c ++ d ++ e ++ f)
six [] a b c d e f = refl
six (x ∷ old) a b c d e f = ap (λ xs. x ∷ xs) (six old a b c d e f)

pub returns : goal.returns
unfolding summary_text
returns c =
    let t = c.args.self.now in
    let range = sure_text (codes " range ") t.range in
    let near = found_text (codes " near ") t.near in
    let join = sure_text (codes " join ") t.join in
    on_ok_weaker c.append.result (λ is.
    is
    ∙ ap (λ s. s ++ 10 ∷ []) (
    c.in_ok-write_sure-2.ensures
    ∙ ap (λ s. s ++ join) (c.in_ok-write_found.ensures ∙ ap (λ s. s ++ near) (c.in_ok-write_sure.ensures ∙ ap (λ s. s ++ range) c.in_ok-write_number.ensures))
    )
    ∙ six c.args.text.now (codes "trial changes ") (decimal t.changes) range near join (10 ∷ [])) c.append.ensures.ok
