-- The curve on vectors: keys and cells belong to each other, and neighbouring keys have neighbouring cells.
use Rattle.std.proofs.Common.{◌≡◌, ◌≢◌, ℕ, ◌+◌, ◌*◌, ◌%◌, ◌^◌, ◌<◌, ◌≤◌, inl, inr, sym, ap, subst, ◌∙◌, List, length, get_or, set, Bool, true, false, Some, None, arith}
use Rattle.std.proofs.lemmas.Nat.{pow_pos}
use Rattle.std.proofs.lemmas.List.{ext_get_or, length-set, get_or-set_same, get_or-set_other}
use Rattle.std.proofs.lemmas.Bool.{cases_eq}
use Rattle.std.proofs.lemmas.List.FromFn.{length-map-range_with_len, get_or-map-range_with_len}
use Rattle.curve_laws.specs.Laws.{IsCurve}
use Rattle.curve_laws.specs.Grid.{IsCell, IsKey}
use Rattle.hilbert_curve.specs.Curve.{coordinate, hilbert_cell, hilbert_key, IsAbove, IsStep}
use Rattle.hilbert_curve.specs.StepLaws.{Moves, step_found, finds}
use Rattle.hilbert_curve.specs.Rotation.{small_mod}
use Rattle.hilbert_curve.specs.WalkLaws.{coordinate-lt, coordinate-key_from, key_from_same, key_from-lt, key_from-coordinate}

pub length-hilbert_cell : (n b k : ℕ) → length (hilbert_cell n b k) ≡ n
unfolding hilbert_cell
length-hilbert_cell n b k = length-map-range_with_len (λ j. coordinate n j b 0 0 k) 0 n

pub get_or-hilbert_cell : (n b k j d : ℕ) → j < n → get_or (hilbert_cell n b k) j d ≡ coordinate n j b 0 0 k
unfolding hilbert_cell
get_or-hilbert_cell n b k j d l = get_or-map-range_with_len (λ i. coordinate n i b 0 0 k) 0 n j j d l (omega arith)

cell_of_key : (n b k : ℕ) → IsKey n b k → IsCell n b (hilbert_cell n b k)
cell_of_key n b k key = record {
  grid = key.grid;
  axes = length-hilbert_cell n b k;
  below = λ j d l. let inside : j < n = subst (λ m. j < m) (length-hilbert_cell n b k) l in
      subst (λ x. x < 2 ^ b) (sym (get_or-hilbert_cell n b k j d inside)) (coordinate-lt n j b 0 0 k);
}

key_of_cell : (n b : ℕ) (v : List ℕ) → IsCell n b v → IsKey n b (hilbert_key n b v)
unfolding hilbert_key
key_of_cell n b v cell = record {
  grid = cell.grid;
  below = key_from-lt n cell.grid.some_axis cell.grid.few_axes (λ j. get_or v j 0) b 0 0 (pow_pos n);
}

cell_back : (n b : ℕ) (v : List ℕ) → IsCell n b v → hilbert_cell n b (hilbert_key n b v) ≡ v
unfolding hilbert_key
cell_back n b v cell =
    ext_get_or 0 (hilbert_cell n b (hilbert_key n b v)) v (length-hilbert_cell n b (hilbert_key n b v) ∙ sym cell.axes)
    (λ j l.
    let inside : j < n = subst (λ m. j < m) (length-hilbert_cell n b (hilbert_key n b v)) l in
    get_or-hilbert_cell n b (hilbert_key n b v) j 0 inside
    ∙ coordinate-key_from n cell.grid.some_axis cell.grid.few_axes (λ i. get_or v i 0) b 0 0 j (pow_pos n) inside
    ∙ small_mod (get_or v j 0) (2 ^ b) (cell.below j 0 (subst (λ m. j < m) (sym cell.axes) inside)))

key_back : (n b k : ℕ) → IsKey n b k → hilbert_key n b (hilbert_cell n b k) ≡ k
unfolding hilbert_key
key_back n b k key =
    key_from_same n key.grid.some_axis key.grid.few_axes (λ j. get_or (hilbert_cell n b k) j 0) (λ j. coordinate n j b 0 0 k) b 0 0
    (λ j l. ap (λ x. x % 2 ^ b) (get_or-hilbert_cell n b k j 0 l))
    ∙ key_from-coordinate n key.grid.some_axis key.grid.few_axes b 0 0 k (pow_pos n) key.below

-- the laws of a curve
pub hilbert_is_curve : (n b : ℕ) → IsCurve n b (hilbert_key n b) (hilbert_cell n b)
hilbert_is_curve n b = record {
  key_of_cell = key_of_cell n b;
  cell_of_key = cell_of_key n b;
  cell_back = cell_back n b;
  key_back = key_back n b;
}

-- one coordinate more, the others as they were
above : (n b k i a : ℕ) → a < n → coordinate n a b 0 0 i ≡ coordinate n a b 0 0 k + 1 →
    ((j : ℕ) → j ≢ a → coordinate n j b 0 0 i ≡ coordinate n j b 0 0 k) → IsAbove (hilbert_cell n b i) (hilbert_cell n b k) a
above n b k i a h along others =
    let v = hilbert_cell n b k in
    let y = get_or v a 0 + 1 in
    let length_v : length v ≡ n = length-hilbert_cell n b k in
    ext_get_or 0 (hilbert_cell n b i) (set v a y) (length-hilbert_cell n b i ∙ sym (length-set v a y ∙ length_v))
    (λ j l.
    let inside : j < n = subst (λ m. j < m) (length-hilbert_cell n b i) l in
    get_or-hilbert_cell n b i j 0 inside
    ∙ elim (cases_eq j a) [
      | inl e ↦ ap (λ m. coordinate n m b 0 0 i) e ∙ along ∙ ap (λ x. x + 1) (sym (get_or-hilbert_cell n b k a 0 h))
          ∙ sym (ap (λ m. get_or (set v a y) m 0) e ∙ get_or-set_same v a y 0 (subst (λ m. a < m) (sym length_v) h))
      | inr ne ↦ others j ne ∙ sym (get_or-set_other v a j y 0 ne ∙ get_or-hilbert_cell n b k j 0 inside)
    ])

-- what the walk down the groups finds is the step
no_step : (n b k : ℕ) → k + 1 ≡ 2 ^ (n * b) → IsStep n b k None
unfolding IsStep
no_step n b k e = e

step_by : (n b k a : ℕ) (up : Bool) → k + 1 < 2 ^ (n * b) → Moves n b 0 0 k a up → IsStep n b k (Some (a, up))
unfolding IsStep
step_by n b k a true h m = (h, m.axis, above n b k (k + 1) a m.axis m.along m.others)
step_by n b k a false h m = (h, m.axis, above n b (k + 1) k a m.axis m.along (λ j ne. sym (m.others j ne)))

pub found_is_step : (n b k : ℕ) → 0 < n → n ≤ 8 → k < 2 ^ (n * b) → IsStep n b k (step_found n b 0 0 k None)
found_is_step n b k some few below =
    elim (finds n some few b 0 0 k None (pow_pos n) some below) [
      | inl last ↦ subst (IsStep n b k) (sym last.1) (no_step n b k last.0)
      | inr more ↦ subst (IsStep n b k) (sym more.is) (step_by n b k more.a more.up more.before_last more.moves)
    ]
