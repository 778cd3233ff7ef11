-- Draws that go on from a state, and the objects that they make.
use Rattle.std.proofs.Common.{◌≡◌, ℕ, zero, suc, ◌+◌, ◌*◌, ◌%◌, ◌^◌, ◌≤◌, List, [], ◌∷◌, ◌++◌, append-nil, length, get_or, map, All, refl, sym, ap, ◌∙◌, arith}
use Rattle.std.specs.List.{range_with_len}
use Rattle.std.proofs.Math.Nat.{mod-add-mod}
use Rattle.std.specs.Int.{w32, to_be_bytes}
use Rattle.std.proofs.lemmas.List.FromFn.{map-range_with_len_more}
use Rattle.std.proofs.lemmas.List.Elements.{All-map}
use Rattle.metrics_builtin.specs.Vectors.{object_of_components, IsVector}
use Rattle.metrics_builtin.specs.VectorLaws.{object_of_components-append}
use Rattle.trial_script.specs.Draws.{next_draw_state, draw_of, draw_state, draw, drawn_object}
use Rattle.trial_script.specs.Script.{trial_samples}
use Rattle.trial_script.proofs.Ranges.{map-range-same}

-- a product that wraps, and then a sum that does
pub next_draw_state-wrapped : (x : ℕ) → ((x * 6364136223846793005) % 2 ^ 64 + 1442695040888963407) % 2 ^ 64 ≡ next_draw_state x
unfolding next_draw_state
next_draw_state-wrapped x = mod-add-mod (x * 6364136223846793005) (2 ^ 64) 1442695040888963407

-- draws after draws
pub draw_state-after : (seed j k : ℕ) → draw_state (draw_state seed j) k ≡ draw_state seed (j + k)
unfolding draw_state
draw_state-after seed j zero = ap (draw_state seed) (sym (omega arith))
draw_state-after seed j (suc k) =
    let more : suc (j + k) ≡ j + suc k = omega arith in
    ap next_draw_state (draw_state-after seed j k) ∙ ap (draw_state seed) more

-- no draw yet
pub draw_state-start : (seed : ℕ) → seed ≡ draw_state seed 0
unfolding draw_state
draw_state-start seed = refl

pub drawn-start : (seed : ℕ) → [] ≡ object_of_components (map (draw seed) (range_with_len 0 0))
unfolding object_of_components
drawn-start seed = refl

one_component : (n : ℕ) → object_of_components (n ∷ []) ≡ to_be_bytes w32 n
unfolding object_of_components
one_component n = append-nil (to_be_bytes w32 n)

-- one more draw, which moves the state from `now` to `next`
module _ (seed k now next : ℕ) (is : now ≡ draw_state seed k) (moved : next ≡ next_draw_state now) where
  pub draw_state-more : next ≡ draw_state seed (k + 1)
  unfolding draw_state
  draw_state-more =
      let more : suc k ≡ k + 1 = omega arith in
      moved ∙ ap next_draw_state is ∙ ap (draw_state seed) more

  pub drawn-more : (object : List ℕ) (n : ℕ) → object ≡ object_of_components (map (draw seed) (range_with_len 0 k)) → n ≡ draw_of next
      → object ++ to_be_bytes w32 n ≡ object_of_components (map (draw seed) (range_with_len 0 (k + 1)))
  unfolding draw_state
  drawn-more object n kept drawn =
      let value : n ≡ draw seed k = drawn ∙ ap draw_of (moved ∙ ap next_draw_state is) in
      ap (λ m. object ++ to_be_bytes w32 m) value
      ∙ ap (λ o. o ++ to_be_bytes w32 (draw seed k)) kept
      ∙ ap (λ o. object_of_components (map (draw seed) (range_with_len 0 k)) ++ o) (sym (one_component (draw seed k)))
      ∙ sym (object_of_components-append (map (draw seed) (range_with_len 0 k)) (draw seed k ∷ []))
      ∙ ap object_of_components (sym (map-range_with_len_more (draw seed) 0 k k (omega arith)))

-- the object of four draws
pub drawn_object-first : (seed : ℕ) (object : List ℕ) → object ≡ object_of_components (map (draw seed) (range_with_len 0 4)) → object ≡ drawn_object seed 0
unfolding drawn_object
drawn_object-first seed object is = is

-- ---- objects one after the other

-- draws from a later state are later draws
pub draw-after : (seed j k : ℕ) → draw (draw_state seed j) k ≡ draw seed (j + k)
draw-after seed j k = let more : j + suc k ≡ suc (j + k) = omega arith in ap draw_of (draw_state-after seed j (suc k) ∙ ap (draw_state seed) more)

-- objects drawn from the state after some objects are later objects
pub drawn_object-after : (seed j i : ℕ) → drawn_object (draw_state seed (4 * j)) i ≡ drawn_object seed (j + i)
unfolding drawn_object
drawn_object-after seed j i =
    ap object_of_components (map-range-same (draw (draw_state seed (4 * j))) (draw seed) (4 * i) (4 * (j + i)) 4 (λ k less.
    let later : 4 * j + (4 * i + k) ≡ 4 * (j + i) + k = omega arith in
    draw-after seed (4 * j) (4 * i + k) ∙ ap (draw seed) later))

-- ---- what is drawn is in the space

draw_of-small : (x : ℕ) → draw_of x ≤ 1000
unfolding draw_of
draw_of-small x = omega arith

pub drawn_object-IsValid : (seed i : ℕ) → IsVector 4 1000 (drawn_object seed i)
unfolding drawn_object
drawn_object-IsValid seed i = record {
  numbers = map (draw seed) (range_with_len (4 * i) 4);
  dimension = refl;
  within = All-map (λ x. x ≤ 1000) (draw seed) (range_with_len (4 * i) 4) (λ k d less. draw_of-small (draw_state seed (suc (get_or (range_with_len (4 * i) 4) k d))));
  spelling = refl;
}

-- ---- samples

pub trial_samples-all : (seed k : ℕ) (samples : List (List ℕ)) → samples ≡ map (drawn_object seed) (range_with_len 0 k) → k ≡ 16 → samples ≡ trial_samples seed
unfolding trial_samples
trial_samples-all seed k samples is all = is ∙ ap (λ n. map (drawn_object seed) (range_with_len 0 n)) all

pub trial_samples-count : (seed : ℕ) → length (trial_samples seed) ≡ 16
unfolding trial_samples
trial_samples-count seed = refl

pub trial_samples-IsValid : (seed : ℕ) → All (IsVector 4 1000) (trial_samples seed)
unfolding trial_samples
trial_samples-IsValid seed =
    All-map (IsVector 4 1000) (drawn_object seed) (range_with_len 0 16) (λ k d less. drawn_object-IsValid seed (get_or (range_with_len 0 16) k d))

-- one more sample, from the state `now`
pub samples-more : (seed k now next : ℕ) (samples : List (List ℕ)) (object : List ℕ) → now ≡ draw_state seed (4 * k)
    → samples ≡ map (drawn_object seed) (range_with_len 0 k) → object ≡ drawn_object now 0 → next ≡ draw_state now 4 → (next ≡ draw_state seed (4 * (k + 1)))
    × (samples ++ object ∷ [] ≡ map (drawn_object seed) (range_with_len 0 (k + 1)))
samples-more seed k now next samples object at kept drawn moved =
    let after : 4 * k + 4 ≡ 4 * (k + 1) = omega arith in
    let same : k + 0 ≡ k = omega arith in
    let is : object ≡ drawn_object seed k = drawn ∙ ap (λ x. drawn_object x 0) at ∙ drawn_object-after seed k 0 ∙ ap (drawn_object seed) same in (
      moved ∙ ap (λ x. draw_state x 4) at ∙ draw_state-after seed (4 * k) 4 ∙ ap (draw_state seed) after,
      ap (λ o. samples ++ o ∷ []) is
          ∙ ap (λ s. s ++ drawn_object seed k ∷ []) kept
          ∙ sym (map-range_with_len_more (drawn_object seed) 0 k k (omega arith)),
    )
