-- A test that is computed for each number below a bound, and for each number of axes.
use Rattle.std.proofs.Common.{◌≡◌, ℕ, zero, suc, ◌<◌, ◌≤◌, inl, inr, sym, subst, Bool, true, ◌&&◌, arith}
use Rattle.std.proofs.lemmas.Bool.{cases_eq, and_parts}

-- whether a test holds for each number below n
abbrev pub holds_below : (ℕ → Bool) → ℕ → Bool
holds_below test zero = true
holds_below test (suc n) = test n && holds_below test n

pub below_holds : (test : ℕ → Bool) (n x : ℕ) → holds_below test n ≡ true → x < n → test x ≡ true
below_holds test zero x h l = absurd (omega arith)
below_holds test (suc n) x h l =
    elim (cases_eq x n) [
      | inl e ↦ subst (λ k. test k ≡ true) (sym e) (and_parts (test n) (holds_below test n) h).0
      | inr ne ↦ below_holds test n x (and_parts (test n) (holds_below test n) h).1 (omega arith)
    ]

-- what holds for 1 to 8 axes
pub for_axes : (P : ℕ → Type 0) → P 1 → P 2 → P 3 → P 4 → P 5 → P 6 → P 7 → P 8 → (n : ℕ) → 0 < n → n ≤ 8 → P n
for_axes P p1 p2 p3 p4 p5 p6 p7 p8 zero some few = absurd (omega arith)
for_axes P p1 p2 p3 p4 p5 p6 p7 p8 (suc zero) some few = p1
for_axes P p1 p2 p3 p4 p5 p6 p7 p8 (suc (suc zero)) some few = p2
for_axes P p1 p2 p3 p4 p5 p6 p7 p8 (suc (suc (suc zero))) some few = p3
for_axes P p1 p2 p3 p4 p5 p6 p7 p8 (suc (suc (suc (suc zero)))) some few = p4
for_axes P p1 p2 p3 p4 p5 p6 p7 p8 (suc (suc (suc (suc (suc zero))))) some few = p5
for_axes P p1 p2 p3 p4 p5 p6 p7 p8 (suc (suc (suc (suc (suc (suc zero)))))) some few = p6
for_axes P p1 p2 p3 p4 p5 p6 p7 p8 (suc (suc (suc (suc (suc (suc (suc zero))))))) some few = p7
for_axes P p1 p2 p3 p4 p5 p6 p7 p8 (suc (suc (suc (suc (suc (suc (suc (suc zero)))))))) some few = p8
for_axes P p1 p2 p3 p4 p5 p6 p7 p8 (suc (suc (suc (suc (suc (suc (suc (suc (suc n))))))))) some few = absurd (omega arith)
