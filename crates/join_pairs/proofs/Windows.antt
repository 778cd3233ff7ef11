-- The window pairs and the others, as pairs of rows.
use Rattle.std.proofs.Common.{◌≡◌, ◌≢◌, suc, Bool, true, false, List, [], ◌∷◌, ◌++◌, refl, sym, ap, ap₂, subst, ◌∙◌, arith}
use Rattle.std.specs.Prelude.{ℕ, nat_lt, if◌then◌else◌, not, map, filter, All, AllPairs}
use Rattle.std.specs.List.Sorted.{IsPermutation}
use Rattle.std.proofs.lemmas.List.{map-append}
use Rattle.std.proofs.lemmas.List.Elements.{All-map}
use Rattle.std.proofs.lemmas.Simd.{map-map}
use Rattle.std.proofs.lemmas.List.Sorted.{IsPermutation-trans, IsPermutation-map}
use Rattle.spb_defs.specs.Scans.{Entry, considered_pairs}
use Rattle.join_window.specs.declared.window.Reaching.{Reaching}
use Rattle.join_window.specs.WindowPairs.{is_window_pair, pairs_behind, ordered_pairs, window_pairs}
use Rattle.range_query.proofs.Halves.{AreDistinct}
use Rattle.join_pairs.specs.Pairs.{lesser_left, lesser_first, both}
use Rattle.join_pairs.proofs.Ordered.{considered-distinct}

same_map : {A B : Type 0} (f g : A → B) → ((x : A) → f x ≡ g x) → (xs : List A) → map f xs ≡ map g xs
same_map f g same [] = refl
same_map f g same (x ∷ xs) = ap₂ (λ y ys. y ∷ ys) (same x) (same_map f g same xs)

turned_if : (row : Reaching → Entry) (a b : Reaching) (less less' : Bool) → less ≡ less'
    → (if less then (row b, row a) else (row a, row b)) ≡ both row (if less' then (b, a) else (a, b))
turned_if row a b true true same = refl
turned_if row a b false false same = refl
turned_if row a b true false same = cc
turned_if row a b false true same = cc

module _ (row : Reaching → Entry) (named : (e : Reaching) → (row e).0 ≡ e.entry.id) where
  ends-map : (e : Reaching) (seen : List Reaching) → map (λ b. (b, row e)) (map row seen) ≡ map (both row) (map (λ b. (b, e)) seen)
  ends-map e [] = refl
  ends-map e (a ∷ seen) = ap (λ (ps : List (Entry × Entry)). (row a, row e) ∷ ps) (ends-map e seen)

  behind-map : (seen items : List Reaching) → pairs_behind (map row seen) (map row items) ≡ map (both row) (pairs_behind seen items)
  behind-map seen [] = refl
  behind-map seen (e ∷ items) =
      ap₂ (λ (ps qs : List (Entry × Entry)). ps ++ qs) (ends-map e seen)
      (ap (λ (before : List Entry). pairs_behind before (map row items)) (sym (map-append row seen (e ∷ []))) ∙ behind-map (seen ++ (e ∷ [])) items)
      ∙ sym (map-append (both row) (map (λ b. (b, e)) seen) (pairs_behind (seen ++ (e ∷ [])) items))

  turned-same : (p : Reaching × Reaching) → lesser_left (both row p) ≡ both row (lesser_first p)
  turned-same p = turned_if row p.0 p.1 (nat_lt (row p.1).0 (row p.0).0) (nat_lt p.1.entry.id p.0.entry.id) (ap₂ nat_lt (named p.1) (named p.0))

  distinct_rows : (entries : List Reaching) → AllPairs (λ (a b : Reaching). a.entry.id ≢ b.entry.id) entries → AreDistinct (map row entries)
  distinct_rows [] others = tt
  distinct_rows (a ∷ entries) others = (
    All-map (λ (c : Entry). (row a).0 ≢ c.0) row entries (λ k d below same. others 0 (suc k) d (omega arith) (omega (arith, below)) (sym (named a) ∙ same ∙ named _)),
    distinct_rows entries (λ i j d less below. others (suc i) (suc j) d (omega (arith, less)) (omega (arith, below))),
  )

  pub windows-considered : ((entries : List Reaching) → IsPermutation (ordered_pairs entries) (window_pairs entries ++ filter (λ p. not (is_window_pair p)) (ordered_pairs entries)))
      → (entries : List Reaching) → AllPairs (λ (a b : Reaching). a.entry.id ≢ b.entry.id) entries
      → IsPermutation (considered_pairs true (map row entries) (map row entries))
      (map (both row) (map lesser_first (window_pairs entries ++ filter (λ p. not (is_window_pair p)) (ordered_pairs entries))))
  windows-considered parted entries others =
      let all : List (Reaching × Reaching) = window_pairs entries ++ filter (λ p. not (is_window_pair p)) (ordered_pairs entries) in
      let rows : List Entry = map row entries in
      let turned : Reaching × Reaching → Entry × Entry = λ p. both row (lesser_first p) in
      let are : map lesser_left (ordered_pairs rows) ≡ map turned (ordered_pairs entries) =
      ap (map lesser_left) (behind-map [] entries) ∙ map-map lesser_left (both row) (ordered_pairs entries)
      ∙ same_map (λ (p : Reaching × Reaching). lesser_left (both row p)) turned turned-same (ordered_pairs entries) in
      subst (IsPermutation (considered_pairs true rows rows)) (sym (map-map (both row) lesser_first all))
      (IsPermutation-trans (considered_pairs true rows rows) (map turned (ordered_pairs entries)) (map turned all)
      (subst (IsPermutation (considered_pairs true rows rows)) are (considered-distinct rows (distinct_rows entries others)))
      (IsPermutation-map turned (ordered_pairs entries) all (parted entries)))
