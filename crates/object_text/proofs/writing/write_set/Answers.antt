use Rattle.std.proofs.Common.{◌≡◌, ◌++◌, List, ℕ, length, subst, sym, arith, rules}
use Rattle.std.specs.Prelude.{OnOk}
use Rattle.std.proofs.lemmas.Bool.Decides.{nat_tests}
use Rattle.object_text.proofs.NumbersWritten.{set_text-none, set_text-some}
use Rattle.object_text.proofs.writing.write_set.Goals as goal

pub returns-then-is_empty : goal.returns-then-is_empty
returns-then-is_empty c =
    let none : length c.args.object.now ≡ 0 = grind (arith, nat_tests) in
    subst (λ (t : List ℕ). OnOk c.append.result (c.append.new.self ≡ c.args.text.now ++ t)) (sym (set_text-none c.args.object.now none)) (search rules)

pub returns : goal.returns
returns c =
    let some : length c.args.object.now ≡ 0 → ⊥ = grind (arith, nat_tests) in
    subst (λ (t : List ℕ). OnOk c.write_numbers.result (c.write_numbers.new.text ≡ c.args.text.now ++ t)) (set_text-some c.args.object.now (grind arith))
    c.write_numbers.ensures
