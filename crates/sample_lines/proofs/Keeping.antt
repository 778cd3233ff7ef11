-- The first samples, as they are kept one by one.
use Rattle.std.proofs.Common.{◌≡◌, ℕ, ◌<◌, ◌≤◌, List, [], ◌∷◌, ◌++◌, length, take, sym, ap, ◌∙◌, arith}
use Rattle.std.proofs.lemmas.List.{length-append, length-take, take-append-le, take_all}
use Rattle.spb_defs.specs.declared.TheConstants.{SAMPLE_LIMIT}
use Rattle.sample_lines.specs.SampleLines.{first_kept}

module _ {A : Type 0} (limit : ℕ) (objects : List A) (object : A) where
  -- there is no room for one more
  take-full : limit ≤ length (take limit objects) → take limit (objects ++ object ∷ []) ≡ take limit objects
  take-full full = let long = length-take limit objects in take-append-le limit objects (object ∷ []) (omega (arith, full, long))

  -- there is
  take-room : length (take limit objects) < limit → take limit (objects ++ object ∷ []) ≡ take limit objects ++ object ∷ []
  take-room room =
      let long = length-take limit objects in
      let more = length-append objects (object ∷ []) in
      take_all limit (objects ++ object ∷ []) (omega (arith, room, long, more))
      ∙ ap (λ xs. xs ++ object ∷ []) (sym (take_all limit objects (omega (arith, room, long))))

module _ (objects kept : List (List ℕ)) (object : List ℕ) (is : kept ≡ first_kept objects) where
  pub first_kept-full : SAMPLE_LIMIT ≤ length kept → kept ≡ first_kept (objects ++ object ∷ [])
  unfolding first_kept
  first_kept-full full = let same = ap length is in is ∙ sym (take-full SAMPLE_LIMIT objects object (omega (arith, full, same)))

  pub first_kept-room : length kept < SAMPLE_LIMIT → kept ++ object ∷ [] ≡ first_kept (objects ++ object ∷ [])
  unfolding first_kept
  first_kept-room room =
      let same = ap length is in
      ap (λ xs. xs ++ object ∷ []) is ∙ sym (take-room SAMPLE_LIMIT objects object (omega (arith, room, same)))

-- how many are kept
module _ (objects kept : List (List ℕ)) (is : kept ≡ first_kept objects) where
  pub kept-few : length kept ≤ SAMPLE_LIMIT
  unfolding first_kept
  kept-few = let same = ap length is in let long = length-take SAMPLE_LIMIT objects in omega (arith, same, long)

  pub kept-some : 0 < length kept → 0 < length objects
  unfolding first_kept
  kept-some some = let same = ap length is in let long = length-take SAMPLE_LIMIT objects in omega (arith, same, long, some)

  pub kept-none : length kept ≡ 0 → length objects ≡ 0
  unfolding first_kept
  kept-none none = let same = ap length is in let long = length-take SAMPLE_LIMIT objects in omega (arith, same, long, none)
