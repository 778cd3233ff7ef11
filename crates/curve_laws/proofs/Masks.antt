-- A number is compared with a run of ones.
use Rattle.std.proofs.Common.{◌≡◌, ℕ, ◌-◌, ◌/◌, ◌^◌, ◌<◌, ◌≤◌, ◌↔◌, leb, ap, ◌∙◌, arith}
use Rattle.std.specs.Prelude.{IsTrue}
use Rattle.std.proofs.lemmas.Bool.Decides.{nat_tests}
use Rattle.std.proofs.lemmas.Nat.{pow_pos}
use Rattle.std.proofs.lemmas.Nat.Bits.{ones_shr}

-- of w ones those that are left after a shift are as many as the number's bits
pub is_below : (w b x top : ℕ) → b ≤ w → top ≡ (2 ^ w - 1) / 2 ^ (w - b) → IsTrue (leb x top) ↔ (x < 2 ^ b)
is_below w b x top few shifted =
    let back : w - (w - b) ≡ b = omega arith in
    let ones : top ≡ 2 ^ b - 1 = shifted ∙ ones_shr w (w - b) (omega arith) ∙ ap (λ t. 2 ^ t - 1) back in
    let positive : 0 < 2 ^ b = pow_pos b in
    (λ test. grind (arith, nat_tests), λ below. grind (arith, nat_tests))
