-- Whole writes over an image, and torn ones, which a crash cuts short.
use Rattle.std.proofs.Common.{◌≡◌, ◌⊎◌, inl, inr, ℕ, ◌+◌, ◌-◌, ◌<◌, ◌≤◌, max, List, ◌++◌, length, take, drop, slice_index, get_or, refl, ◌∙◌, ap, arith, length-append}
use Rattle.std.proofs.lemmas.List.{length-take-le, length-drop, get_or_append_left, get_or-append_right, get_or-take, get_or-drop}
use Rattle.spb_edge.specs.Crash.{IsTornWrite}
use Rattle.spb_edge.specs.Disk.{overwritten_at}

module _ (image : List ℕ) (at : ℕ) (bytes : List ℕ) (within : at ≤ length image) where
  length-front : length (take at image ++ bytes) ≡ at + length bytes
  length-front = length-append (take at image) bytes ∙ ap (λ n. n + length bytes) (length-take-le at image within)

  -- the length of the overwritten image
  pub length-overwritten_at : length (overwritten_at image at bytes) ≡ max (length image) (at + length bytes)
  length-overwritten_at = length-append (take at image ++ bytes) (drop (at + length bytes) image)
      ∙ omega (arith, length-front, length-drop (at + length bytes) image)

  -- before the range
  pub overwritten_at-before : (k : ℕ) → k < at → slice_index (overwritten_at image at bytes) k ≡ slice_index image k
  overwritten_at-before k lt =
      get_or_append_left (take at image ++ bytes) (drop (at + length bytes) image) 0 k (omega (arith, lt, length-front))
      ∙ get_or_append_left (take at image) bytes 0 k (omega (arith, lt, length-take-le at image within))
      ∙ get_or-take at image k 0 lt

  -- in it
  pub overwritten_at-in : (k : ℕ) → k < length bytes → slice_index (overwritten_at image at bytes) (at + k) ≡ slice_index bytes k
  overwritten_at-in k lt =
      let on : at + k - at ≡ k = omega arith in
      get_or_append_left (take at image ++ bytes) (drop (at + length bytes) image) 0 (at + k) (omega (arith, lt, length-front))
      ∙ get_or-append_right (take at image) bytes at (at + k) 0 (length-take-le at image within) (omega arith)
      ∙ ap (λ i. get_or bytes i 0) on

  -- after it
  pub overwritten_at-behind : (k : ℕ) → at + length bytes ≤ k → slice_index (overwritten_at image at bytes) k ≡ slice_index image k
  overwritten_at-behind k le =
      let on : at + length bytes + (k - (at + length bytes)) ≡ k = omega (arith, le) in
      get_or-append_right (take at image ++ bytes) (drop (at + length bytes) image) (at + length bytes) k 0 length-front le
      ∙ get_or-drop (at + length bytes) image (k - (at + length bytes)) 0
      ∙ ap (λ i. get_or image i 0) on

  -- a whole write is among its torn ones
  pub torn-overwritten_at : IsTornWrite at (length bytes) image (overwritten_at image at bytes)
  torn-overwritten_at = record {
    no_shorter = omega (arith, length-overwritten_at);
    no_longer = omega (arith, length-overwritten_at);
    alike = λ k lt where_is. outside k where_is;
  }
    where
      outside : (k : ℕ) → (k < at) ⊎ (at + length bytes ≤ k) → slice_index (overwritten_at image at bytes) k ≡ slice_index image k
      outside k (inl lt) = overwritten_at-before k lt
      outside k (inr le) = overwritten_at-behind k le

-- so is the image as it was
pub torn-same : (at count : ℕ) (image : List ℕ) → IsTornWrite at count image image
torn-same at count image = record { no_shorter = omega arith; no_longer = omega arith; alike = λ k lt outside. refl }
