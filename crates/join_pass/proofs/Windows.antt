-- The pairs that are tested are the window pairs, where keys don't fall.
use Rattle.std.proofs.Common.{◌≡◌, ℕ, suc, ◌≤◌, List, [], ◌∷◌, ◌++◌, refl, sym, ap, ap₂, ◌∙◌, arith}
use Rattle.std.specs.Prelude.{map, filter, All}
use Rattle.std.proofs.lemmas.List.{map-append}
use Rattle.std.proofs.lemmas.Simd.{map-map}
use Rattle.join_window.specs.declared.window.Reaching.{Reaching}
use Rattle.join_window.specs.WindowPairs.{reaches, is_window_pair, pairs_behind, window_pairs, HoldsFrom}
use Rattle.join_step.specs.declared.placing.Placing.TheVariants.{ByIds}
use Rattle.join_step.specs.Meetings.{pairs_with}
use Rattle.join_pass.specs.Passing.{tested, by_ids, KeysRise}

-- the keys are at least this one, and don't fall
abbrev RiseFrom : ℕ → List Reaching → Type 0
RiseFrom least [] = Unit {0}
RiseFrom least (e ∷ coming) = (least ≤ e.entry.key) × RiseFrom e.entry.key coming

rise_from : (entries : List Reaching) (least : ℕ) → All (λ (e : Reaching). least ≤ e.entry.key) entries → KeysRise entries → RiseFrom least entries
rise_from [] least above rise = tt
rise_from (e ∷ coming) least above rise =
    (above 0 e (omega arith), rise_from coming e.entry.key (λ k d below. rise 0 (suc k) d (omega arith) (omega (arith, below))) (λ i j d less below. rise (suc i) (suc j) d (omega (arith, less)) (omega (arith, below))))

module _ (added : (least key : ℕ) (window seen : List Reaching) (e : Reaching) → least ≤ key → HoldsFrom least window seen
    → HoldsFrom key (filter (reaches key) window ++ (e ∷ [])) (seen ++ (e ∷ [])))
    (next : (seen rest : List Reaching) (e : Reaching) → filter is_window_pair (pairs_behind seen (e ∷ rest))
    ≡ map (λ a. (a, e)) (filter (reaches e.entry.key) seen) ++ filter is_window_pair (pairs_behind (seen ++ (e ∷ [])) rest)) where
  tested-from : (coming window seen : List Reaching) (least : ℕ) → HoldsFrom least window seen → RiseFrom least coming
      → tested window coming ≡ map by_ids (filter is_window_pair (pairs_behind seen coming))
  tested-from [] window seen least holds rise = refl
  tested-from (e ∷ coming) window seen least holds rise =
      let key = e.entry.key in
      let held : filter (reaches key) window ≡ filter (reaches key) seen = holds key rise.0 in
      let first : pairs_with ByIds e (filter (reaches key) window) ≡ map by_ids (map (λ a. (a, e)) (filter (reaches key) seen)) =
      ap (pairs_with ByIds e) held ∙ sym (map-map by_ids (λ a. (a, e)) (filter (reaches key) seen)) in
      let rest = tested-from coming (filter (reaches key) window ++ (e ∷ [])) (seen ++ (e ∷ [])) key (added least key window seen e rise.0 holds) rise.1 in
      ap₂ (λ (ps qs : List (Reaching × Reaching)). ps ++ qs) first rest
      ∙ sym (map-append by_ids (map (λ a. (a, e)) (filter (reaches key) seen)) (filter is_window_pair (pairs_behind (seen ++ (e ∷ [])) coming)))
      ∙ sym (ap (map by_ids) (next seen coming e))

  pub tested-is : (entries : List Reaching) → KeysRise entries → tested [] entries ≡ map by_ids (window_pairs entries)
  tested-is entries rise = tested-from entries [] [] 0 (λ key above. refl) (rise_from entries 0 (λ k d below. omega arith) rise)
