-- Pairs by the later item are those by the earlier one.
use Rattle.std.proofs.Common.{◌≡◌, ◌≢◌, suc, true, List, [], ◌∷◌, ◌++◌, refl, sym, ap, subst, ◌∙◌, arith}
use Rattle.std.specs.Prelude.{map, AllPairs}
use Rattle.std.specs.List.Sorted.{IsPermutation}
use Rattle.std.proofs.lemmas.List.{map-append}
use Rattle.std.proofs.lemmas.Simd.{map-map}
use Rattle.std.proofs.lemmas.List.Sorted.{IsPermutation-refl, IsPermutation-trans, IsPermutation-cons, IsPermutation-sym, IsPermutation-append_right, IsPermutation-map}
use Rattle.answer_lists.specs.Permutations.{permutation-fronts}
use Rattle.spb_defs.specs.Scans.{Entry, considered_pairs}
use Rattle.join_window.specs.WindowPairs.{pairs_behind, ordered_pairs}
use Rattle.range_query.proofs.Halves.{turned, turned_all, AreDistinct, considered_pairs-turned}
use Rattle.join_pairs.specs.Pairs.{lesser_left}

-- an item with each of the others
abbrev with_each : {A : Type 0} → A → List A → List (A × A)
with_each a items = map (λ b. (a, b)) items

-- each item with each behind it
abbrev by_earlier : {A : Type 0} → List A → List (A × A)
by_earlier [] = []
by_earlier (a ∷ items) = with_each a items ++ by_earlier items

-- the first of those before is paired with all behind
first_behind : {A : Type 0} (a : A) (seen items : List A) → IsPermutation (pairs_behind (a ∷ seen) items) (with_each a items ++ pairs_behind seen items)
first_behind a seen [] = IsPermutation-refl []
first_behind {A} a seen (e ∷ items) =
    let ends : List (A × A) = map (λ b. (b, e)) seen in
    let rest : List (A × A) = pairs_behind (seen ++ (e ∷ [])) items in
    IsPermutation-cons (a, e) (ends ++ pairs_behind (a ∷ (seen ++ (e ∷ []))) items) (with_each a items ++ (ends ++ rest))
    (IsPermutation-trans _ _ _
    (IsPermutation-append_right ends (pairs_behind (a ∷ (seen ++ (e ∷ []))) items) (with_each a items ++ rest) (first_behind a (seen ++ (e ∷ [])) items))
    (permutation-fronts ends (with_each a items) rest))

ordered-by_earlier : {A : Type 0} (items : List A) → IsPermutation (ordered_pairs items) (by_earlier items)
ordered-by_earlier [] = IsPermutation-refl []
ordered-by_earlier (a ∷ items) =
    IsPermutation-trans (pairs_behind (a ∷ []) items) (with_each a items ++ pairs_behind [] items) (with_each a items ++ by_earlier items)
    (first_behind a [] items)
    (IsPermutation-append_right (with_each a items) (pairs_behind [] items) (by_earlier items) (ordered-by_earlier items))

turned-by_earlier : (rows right : List Entry) → turned_all true rows right ≡ map lesser_left (by_earlier rows)
turned-by_earlier [] right = refl
turned-by_earlier (a ∷ rows) right =
    ap (λ (ps : List (Entry × Entry)). map (turned true a) rows ++ ps) (turned-by_earlier rows right)
    ∙ ap (λ (ps : List (Entry × Entry)). ps ++ map lesser_left (by_earlier rows)) (sym (map-map lesser_left (λ b. (a, b)) rows))
    ∙ sym (map-append lesser_left (with_each a rows) (by_earlier rows))

distinct : (rows : List Entry) → AllPairs (λ (a b : Entry). a.0 ≢ b.0) rows → AreDistinct rows
distinct [] others = tt
distinct (a ∷ rows) others =
    (λ k d below. others 0 (suc k) d (omega arith) (omega (arith, below)), distinct rows (λ i j d less below. others (suc i) (suc j) d (omega (arith, less)) (omega (arith, below))))

pub considered-distinct : (rows : List Entry) → AreDistinct rows → IsPermutation (considered_pairs true rows rows) (map lesser_left (ordered_pairs rows))
considered-distinct rows others =
    IsPermutation-trans (considered_pairs true rows rows) (map lesser_left (by_earlier rows)) (map lesser_left (ordered_pairs rows))
    (subst (IsPermutation (considered_pairs true rows rows)) (turned-by_earlier rows rows) (considered_pairs-turned true rows rows (λ h. refl) others))
    (IsPermutation-map lesser_left (by_earlier rows) (ordered_pairs rows) (IsPermutation-sym (ordered_pairs rows) (by_earlier rows) (ordered-by_earlier rows)))

pub considered-ordered : (rows : List Entry) → AllPairs (λ (a b : Entry). a.0 ≢ b.0) rows
    → IsPermutation (considered_pairs true rows rows) (map lesser_left (ordered_pairs rows))
considered-ordered rows others = considered-distinct rows (distinct rows others)
