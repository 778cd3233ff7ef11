-- How far an entry reaches, and what it doesn't reach.
use Rattle.std.proofs.Common.{◌≡◌, ℕ, ◌+◌, ◌-◌, ◌/◌, ◌^◌, ◌<◌, ◌≤◌, min, Bool, true, false, ◌&&◌, List, [], ◌∷◌, length, zero, suc, refl, sym, ap, ap₂, ◌∙◌, arith}
use Rattle.std.specs.Prelude.{nat_le, All}
use Rattle.std.proofs.lemmas.Bool.Decides.{nat_tests}
use Rattle.std.proofs.lemmas.Nat.{pow_pos}
use Rattle.std.proofs.Math.Pow.{pow_mono}
use Rattle.std.proofs.lemmas.Nat.Bits.{ones_shr}
use Rattle.std.proofs.lemmas.List.{length-map}
use Rattle.std.proofs.lemmas.List.Elements.{All-head, All-tail}
use Rattle.curve_laws.specs.Grid.{IsCell}
use Rattle.curve_laws.specs.Vectors.{IsUpTo}
use Rattle.spb_defs.specs.Pivots.{pair_meets, pair_is_sure}
use Rattle.pivot_map.specs.Verdicts.{verdict, pair_verdict}
use Rattle.pivot_map.specs.declared.verdict.PairTest.TheVariants.{Apart}
use Rattle.z_curve.specs.ZOrder.{z_key}
use Rattle.join_window.specs.Corners.{raised, upper_corner, reach}

-- ---- a coordinate

capped : (most limit sum : ℕ) → most ≤ limit → min most (min sum limit) ≡ min most sum
capped most limit sum few = grind (arith, nat_tests)

-- of 32 ones those that are left after a shift are the greatest coordinate
pub most_ones : (b top : ℕ) → b ≤ 32 → top ≡ (2 ^ 32 - 1) / 2 ^ (32 - b) → top ≡ 2 ^ b - 1
most_ones b top few shifted =
    let back : 32 - (32 - b) ≡ b = omega arith in
    shifted ∙ ones_shr 32 (32 - b) (omega arith) ∙ ap (λ t. 2 ^ t - 1) back

pub raised-is : (b radius x top sum lesser : ℕ) → b ≤ 32 → top ≡ (2 ^ 32 - 1) / 2 ^ (32 - b) → sum ≡ min (x + radius) (2 ^ 32 - 1) → lesser ≡ min top sum
    → lesser ≡ raised b radius x
raised-is b radius x top sum lesser few shifted is are =
    let ones = most_ones b top few shifted in
    let wide : 2 ^ b ≤ 2 ^ 32 = pow_mono few in
    are ∙ ap₂ min ones is ∙ capped (2 ^ b - 1) (2 ^ 32 - 1) (x + radius) (omega (arith, wide))

-- ---- the upper corner is a cell

raised_below : (b radius x : ℕ) → raised b radius x < 2 ^ b
raised_below b radius x = let positive = pow_pos b in grind (arith, nat_tests, positive)

corner_below : (b radius : ℕ) (v : List ℕ) → All (λ x. x < 2 ^ b) (upper_corner b radius v)
corner_below b radius [] i d within = absurd (omega arith)
corner_below b radius (x ∷ v) zero d within = raised_below b radius x
corner_below b radius (x ∷ v) (suc i) d within = corner_below b radius v i d (omega arith)

pub corner-is_cell : (n b radius : ℕ) (v : List ℕ) → IsCell n b v → IsCell n b (upper_corner b radius v)
corner-is_cell n b radius v cell = record {
  grid = cell.grid;
  axes = length-map v (raised b radius) ∙ cell.axes;
  below = corner_below b radius v;
}

-- ---- what meets a cell is below its upper corner

both-of : (p q : Bool) → (p && q) ≡ true → (p ≡ true) × (q ≡ true)
both-of true true h = (refl, refl)
both-of true false h = cc
both-of false q h = cc

within_raised : (b radius x y : ℕ) → y < 2 ^ b → nat_le y (x + radius) ≡ true → y ≤ raised b radius x
within_raised b radius x y below near = grind (arith, nat_tests)

meets-up_to : (b radius : ℕ) (v w : List ℕ) → length v ≡ length w → All (λ y. y < 2 ^ b) w → pair_meets v radius w ≡ true → IsUpTo w (upper_corner b radius v)
meets-up_to b radius [] [] same below met = tt
meets-up_to b radius [] (y ∷ w) same below met = absurd (omega (arith, same))
meets-up_to b radius (x ∷ v) [] same below met = absurd (omega (arith, same))
meets-up_to b radius (x ∷ v) (y ∷ w) same below met =
    let parts = both-of _ _ met in
    let near = both-of _ _ parts.0 in (
      within_raised b radius x y (All-head (λ y. y < 2 ^ b) y w below) near.0,
      meets-up_to b radius v w (omega (arith, same)) (All-tail (λ y. y < 2 ^ b) y w below) parts.1,
    )

apart_if : (met sure : Bool) → (met ≡ true → ⊥) → verdict met sure ≡ Apart
apart_if false sure not_met = refl
apart_if true sure not_met = absurd (not_met refl)

-- a cell whose key the first one doesn't reach is apart from it
pub apart-beyond : (n b radius : ℕ) (v w : List ℕ) → ((u : List ℕ) → IsCell n b u → IsUpTo w u → z_key b w ≤ z_key b u) → IsCell n b v → IsCell n b w
    → reach b radius v < z_key b w → pair_verdict v radius w ≡ Apart
apart-beyond n b radius v w order first second beyond =
    apart_if (pair_meets v radius w) (pair_is_sure v radius w) (λ met.
    let most : z_key b w ≤ reach b radius v = order (upper_corner b radius v) (corner-is_cell n b radius v first)
    (meets-up_to b radius v w (first.axes ∙ sym second.axes) second.below met) in
    omega (arith, most, beyond))
