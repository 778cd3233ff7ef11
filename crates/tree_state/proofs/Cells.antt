-- The cells of a store's objects are cells of its curve.
use Rattle.std.proofs.Common.{◌≡◌, ◌⊎◌, inl, inr, ℕ, zero, suc, ◌+◌, ◌^◌, ◌≤◌, ◌<◌, List, [], ◌∷◌, length, sym, subst, ◌∙◌, arith}
use Rattle.std.specs.Prelude.{IsTrue, All}
use Rattle.std.specs.List.{AllByRecursion}
use Rattle.std.proofs.lemmas.Bool.{cases_lt}
use Rattle.std.proofs.lemmas.List.{length-map}
use Rattle.std.proofs.lemmas.List.Elements.{All-from_recursion, recursion_from_All}
use Rattle.metric_laws.specs.Objects.{Object}
use Rattle.metrics_builtin.specs.declared.Space.{Space}
use Rattle.metrics_builtin.specs.Space.{fits, IsValid, dist, top, bit_count, bits}
use Rattle.metrics_builtin.specs.BitLaws.{bit_count-highest}
use Rattle.metrics_builtin.specs.SpaceLaws.{is_metric, top-below}
use Rattle.curve_laws.specs.Grid.{IsCell}
use Rattle.curve_laws.specs.Laws.{IsCurve}
use Rattle.z_curve.specs.ZLaws.{is_curve}
use Rattle.hilbert_curve.specs.CurveLaws.{hilbert_is_curve}
use Rattle.spb_defs.specs.declared.CurveKind.{CurveKind}
use Rattle.spb_defs.specs.declared.CurveKind.TheVariants.{Z, Hilbert}
use Rattle.tree_state.specs.StoreCurves.{key_on, cell_on}
use Rattle.spb_defs.specs.Pivots.{cells_of}
use Rattle.store_check.specs.declared.profile.Profile.{Profile}
use Rattle.store_check.specs.Profile.{IsInRange}

-- ---- how many bits a number takes

highest : (k n : ℕ) → n < 2 ^ k → (n < 1) ⊎ ((r : ℕ) × (2 ^ r ≤ n) × (n < 2 ^ (r + 1)) × (r < k))
highest zero n below = inl (omega (arith, below))
highest (suc k) n below = elim (cases_lt n (2 ^ k)) [
  | inl less ↦ elim (highest k n less) [
    | inl none ↦ inl none
    | inr found ↦ inr (found.0, found.1, found.2, omega (arith, found.3))
  ]
  | inr least ↦
      let next : k + 1 ≡ suc k = omega arith in
      inr (k, least, subst (λ j. n < 2 ^ j) (sym next) below, omega arith)
]

-- the bits of a number of 32 bits hold it
pub bits-hold : (n : ℕ) → n < 2 ^ 32 → (n < 2 ^ bit_count n) × (1 ≤ bit_count n) × (bit_count n ≤ 32)
unfolding bit_count
bits-hold n below = elim (highest 32 n below) [
  | inl none ↦ of_zero n (omega (arith, none))
  | inr found ↦
      let count = bit_count-highest n found.0 found.1 found.2 found.3 in
      (subst (λ k. n < 2 ^ k) (sym count) found.2, omega (arith, count), omega (arith, count, found.3))
]
  where
    of_zero : (n : ℕ) → n ≡ 0 → (n < 2 ^ bit_count n) × (1 ≤ bit_count n) × (bit_count n ≤ 32)
    of_zero zero is = (omega arith, omega arith, omega arith)
    of_zero (suc n) is = absurd (omega (arith, is))

-- ---- cells

cells_below : (space : Space) (pivots : List Object) (object : Object) (b : ℕ) → IsTrue (fits space) → AllByRecursion (IsValid space) pivots → IsValid space object
    → top space < 2 ^ b → AllByRecursion (λ x. x < 2 ^ b) (cells_of (dist space) pivots object)
cells_below space [] object b fit valid is below = tt
cells_below space (pivot ∷ pivots) object b fit valid is below = (
  omega (arith, below, (is_metric space fit).bounded object pivot is valid.0),
  cells_below space pivots object b fit valid.1 is below,
)

-- an object has a cell for each pivot, and each has the bits of the profile
pub cells_are_cells : (profile : Profile) (pivots : List Object) (object : Object) → IsInRange profile → length pivots ≡ profile.pivots
    → All (IsValid profile.space) pivots → IsValid profile.space object → IsCell profile.pivots profile.bits (cells_of (dist profile.space) pivots object)
cells_are_cells profile pivots object range count valid is =
    let held = bits-hold (top profile.space) (top-below profile.space range.fit) in
    record {
      grid = record {
        some_axis = omega (arith, range.some_pivots);
        few_axes = range.few_pivots;
        some_bit = omega (arith, range.width, held.1);
        few_bits = omega (arith, range.width, held.2);
        fits = range.few_bits;
      };
      axes = length-map pivots (λ (pivot : Object). dist profile.space object pivot) ∙ count;
      below = subst (λ b. All (λ x. x < 2 ^ b) (cells_of (dist profile.space) pivots object)) (sym range.width)
          (All-from_recursion (λ x. x < 2 ^ bits profile.space) (cells_of (dist profile.space) pivots object)
          (cells_below profile.space pivots object (bits profile.space) range.fit (recursion_from_All (IsValid profile.space) pivots valid) is held.0));
    }

-- ---- the curves

-- keys and cells belong to each other, one to one
pub curve_on : (kind : CurveKind) (axes bits : ℕ) → IsCurve axes bits (key_on kind axes bits) (cell_on kind axes bits)
curve_on Z axes bits = is_curve axes bits
curve_on Hilbert axes bits = hilbert_is_curve axes bits
