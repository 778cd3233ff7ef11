-- The laws of the boxes of curve trees.
use Rattle.std.specs.Prelude.{◌≡◌, ℕ, ◌*◌, ◌^◌, ◌&&◌, ◌<◌, ◌≤◌, nat_le, nat_lt, Bool, true, false, if◌then◌else◌, List, length, Option, Some, None}
use Rattle.std.specs.Bool.{Decides}
use Rattle.std.proofs.Common.{refl, sym, ap, ap₂, subst, ◌∙◌, arith}
use Rattle.std.proofs.lemmas.Bool.Decides.{nat_tests}
use Rattle.curve_laws.specs.Grid.{IsCell, IsKey}
use Rattle.curve_laws.specs.GridLaws.{cell-low_corner, cell-high_corner}
use Rattle.curve_laws.specs.Laws.{IsCurve}
use Rattle.curve_laws.specs.Vectors.{up_to_itself}
use Rattle.bptree_node.specs.declared.rows.Entry.{Entry}
use Rattle.bptree_node.specs.Summaries.{AreBoxes}
use Rattle.box_corner.specs.Boxes.{Box, point, joined, is_up_to, between}
use Rattle.box_corner.specs.BoxLaws.{joined-ordered, up_to_when_tested, between-some}
use Rattle.box_corner.specs.CurveBoxes.{is_key, entry_box, branch_box, keys_of, IsMade}

-- ---- keys

key_tests : (n b product k bound : ℕ) → 0 < n → n ≤ 8 → 0 < b → b ≤ 32 → product ≤ 64 → k < bound
    → (nat_lt 0 n && nat_le n 8 && nat_lt 0 b && nat_le b 32 && nat_le product 64 && nat_lt k bound) ≡ true
key_tests n b product k bound some_axis few_axes some_bit few_bits fits below = grind (arith, nat_tests)

tests_of_key : (n b product k bound : ℕ)
    → (nat_lt 0 n && nat_le n 8 && nat_lt 0 b && nat_le b 32 && nat_le product 64 && nat_lt k bound) ≡ true
    → (0 < n) × (n ≤ 8) × (0 < b) × (b ≤ 32) × (product ≤ 64) × (k < bound)
tests_of_key n b product k bound h = grind (arith, nat_tests)

-- the test tells the keys
pub Decides-is_key : (n b k : ℕ) → Decides (is_key n b k) (IsKey n b k)
Decides-is_key n b k = (
  λ test.
      let (some_axis, few_axes, some_bit, few_bits, fits, below) = tests_of_key n b (n * b) k (2 ^ (n * b)) test in
      record {
        grid = record { some_axis = some_axis; few_axes = few_axes; some_bit = some_bit; few_bits = few_bits; fits = fits };
        below = below;
      },
  λ key. key_tests n b (n * b) k (2 ^ (n * b)) key.grid.some_axis key.grid.few_axes key.grid.some_bit key.grid.few_bits key.grid.fits key.below,
)

-- ---- boxes

-- what tests leave of a box, if they leave something
pub some_if : (test : Bool) (made box : Box) → (if test then Some made else None) ≡ Some box → (test ≡ true) × (made ≡ box)
some_if true made box h = (refl, cc)
some_if false made box h = absurd cc

some_if_both : (p q test : Bool) (made box : Box) → (if p && q then (if test then Some made else None) else None) ≡ Some box
    → (p ≡ true) × (q ≡ true) × (test ≡ true) × (made ≡ box)
some_if_both true true true made box h = (refl, refl, refl, cc)
some_if_both true true false made box h = absurd cc
some_if_both true false test made box h = absurd cc
some_if_both false q test made box h = absurd cc

if_both : (p q : Bool) (found : Option Box) (box : Box) → p ≡ true → q ≡ true → found ≡ Some box → (if p && q then found else None) ≡ Some box
if_both true true found box p_true q_true is = is
if_both true false found box p_true q_true is = absurd cc
if_both false q found box p_true q_true is = absurd cc

module _ (n b : ℕ) (key_of : List ℕ → ℕ) (cell_of : ℕ → List ℕ) (laws : IsCurve n b key_of cell_of) where
  cell_of_tested : (k : ℕ) → is_key n b k ≡ true → IsCell n b (cell_of k)
  cell_of_tested k test = laws.cell_of_key k ((Decides-is_key n b k).0 test)

  entry_made : (e : Entry) (s : Box) → entry_box n b cell_of e ≡ Some s → IsMade n b s
  entry_made e s is =
      let tests = some_if (is_key n b e.key) (point (cell_of e.key)) s is in
      let cell = cell_of_tested e.key tests.0 in
      subst (λ (box : Box). IsMade n b box) tests.1 (record { low = cell; high = cell; ordered = up_to_itself (cell_of e.key) })

  branch_made : (low high : ℕ) (s : Box) → branch_box n b cell_of low high ≡ Some s → IsMade n b s
  branch_made low high s is =
      let box : Box = record { low = cell_of low; high = cell_of high } in
      let tests = some_if_both (is_key n b low) (is_key n b high) (is_up_to (cell_of low) (cell_of high)) box s is in
      let first = cell_of_tested low tests.0 in
      let second = cell_of_tested high tests.1 in
      let ordered = up_to_when_tested (cell_of low) (cell_of high) (first.axes ∙ sym second.axes) tests.2 in
      subst (λ (box : Box). IsMade n b box) tests.3 (record { low = first; high = second; ordered = ordered })

  joined_made : (x y : Box) → IsMade n b x → IsMade n b y → IsMade n b (joined x y)
  joined_made x y first second = record {
    low = cell-low_corner n b x.low y.low first.low second.low;
    high = cell-high_corner n b x.high y.high first.high second.high;
    ordered = joined-ordered x y (first.low.axes ∙ sym second.low.axes) first.ordered second.ordered;
  }

  back : (s : Box) (low high : ℕ) → IsMade n b s → keys_of key_of s ≡ (low, high) → branch_box n b cell_of low high ≡ Some s
  back s low high made are =
      let found : between (cell_of (key_of s.low)) (cell_of (key_of s.high)) ≡ Some s =
      ap₂ between (laws.cell_back s.low made.low) (laws.cell_back s.high made.high) ∙ between-some s made.ordered in
      ap (λ (keys : ℕ × ℕ). branch_box n b cell_of keys.0 keys.1) (sym are)
      ∙ if_both (is_key n b (key_of s.low)) (is_key n b (key_of s.high)) (between (cell_of (key_of s.low)) (cell_of (key_of s.high))) s
      ((Decides-is_key n b (key_of s.low)).1 (laws.key_of_cell s.low made.low))
      ((Decides-is_key n b (key_of s.high)).1 (laws.key_of_cell s.high made.high))
      found

-- the boxes that a curve tree makes have as many coordinates as the curve, and are given back by their corners' keys
pub box_laws : (n b : ℕ) (key_of : List ℕ → ℕ) (cell_of : ℕ → List ℕ) → IsCurve n b key_of cell_of
    → AreBoxes (λ (box : Box). length box.low) joined (entry_box n b cell_of) (branch_box n b cell_of) (keys_of key_of) (IsMade n b) n
box_laws n b key_of cell_of laws = record {
  entry_made = entry_made n b key_of cell_of laws;
  branch_made = branch_made n b key_of cell_of laws;
  joined_made = joined_made n b key_of cell_of laws;
  one_size = λ s made. made.low.axes;
  back = back n b key_of cell_of laws;
}
