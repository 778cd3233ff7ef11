-- The pairs of each row with those after it are those of all rows with all whose left id is the lesser.
use Rattle.std.proofs.Common.{◌≡◌, ◌≢◌, ℕ, Bool, true, false, List, [], ◌∷◌, ◌++◌, refl, sym, ap, subst, ◌∙◌, append_assoc, arith}
use Rattle.std.specs.Prelude.{◌&&◌, not, nat_lt, if◌then◌else◌, filter, map, All}
use Rattle.std.specs.List.{flat_map}
use Rattle.std.specs.List.Sorted.{IsPermutation}
use Rattle.std.proofs.lemmas.List.Elements.{All-head, All-tail, filter-append}
use Rattle.std.proofs.lemmas.List.Concat.{flat_map-cons}
use Rattle.std.proofs.lemmas.List.Sorted.{IsPermutation-refl, IsPermutation-trans, IsPermutation-cons, IsPermutation-append, IsPermutation-append_right, IsPermutation-middle}
use Rattle.std.proofs.lemmas.Bool.Decides.{nat_tests}
use Rattle.answer_lists.specs.Permutations.{permutation-fronts}
use Rattle.spb_defs.specs.Scans.{Entry, product, considered_pairs}

abbrev Pairs : Type 0
Pairs = List (Entry × Entry)

-- the row on the left has the lesser id
abbrev rises : Entry × Entry → Bool
rises p = nat_lt p.0.0 p.1.0

-- the two rows, within one list with the lesser id on the left
abbrev pub turned : Bool → Entry → Entry → Entry × Entry
turned same a b = if same && nat_lt b.0 a.0 then (b, a) else (a, b)

-- a row with all rows
abbrev with_all : Entry → List Entry → Pairs
with_all a rows = map (λ b. (a, b)) rows

-- those of them that rise
abbrev above : List Entry → Entry → Pairs
above rows a = filter rises (with_all a rows)

-- the pairs of each row with its partners
abbrev pub turned_all : Bool → List Entry → List Entry → Pairs
turned_all same [] right = []
turned_all same (a ∷ rows) right = map (turned same a) (if same then rows else right) ++ turned_all same rows right

filter-flat : (rows left : List Entry) → filter rises (flat_map (λ a. with_all a rows) left) ≡ flat_map (above rows) left
filter-flat rows [] = refl
filter-flat rows (a ∷ left) =
    ap (filter rises) (flat_map-cons (λ a. with_all a rows) a left)
    ∙ filter-append rises (with_all a rows) (flat_map (λ a. with_all a rows) left)
    ∙ ap (λ ps. above rows a ++ ps) (filter-flat rows left)
    ∙ sym (flat_map-cons (above rows) a left)

-- each with one row, and then with the others
above-cons : (a : Entry) (rows : List Entry) (c : Entry) → above (a ∷ rows) c ≡ above (a ∷ []) c ++ above rows c
above-cons a rows c = filter-append rises ((c, a) ∷ []) (with_all c rows)

quartered : (a b c d whole : Pairs) → IsPermutation whole (c ++ d) → IsPermutation ((a ++ b) ++ whole) ((a ++ c) ++ (b ++ d))
quartered a b c d whole h =
    simp append_assoc (IsPermutation-append_right a _ _ (IsPermutation-trans _ _ _ (IsPermutation-append_right b whole (c ++ d) h) (permutation-fronts b c d)))

apart : (a : Entry) (rows left : List Entry) → IsPermutation (flat_map (above (a ∷ rows)) left) (flat_map (above (a ∷ [])) left ++ flat_map (above rows) left)
apart a rows [] = IsPermutation-refl []
apart a rows (c ∷ left) =
    subst (λ (ps : Pairs). IsPermutation (ps ++ flat_map (above (a ∷ rows)) left) (flat_map (above (a ∷ [])) (c ∷ left) ++ flat_map (above rows) (c ∷ left)))
    (sym (above-cons a rows c))
    (quartered (above (a ∷ []) c) (above rows c) (flat_map (above (a ∷ [])) left) (flat_map (above rows) left) (flat_map (above (a ∷ rows)) left)
    (apart a rows left))

-- no row rises to itself
never : (n : ℕ) → nat_lt n n ≡ false
never n = grind (arith, nat_tests)

-- of two rows with different ids one rises to the other
one_way : (m n : ℕ) → m ≢ n → nat_lt m n ≡ not (nat_lt n m)
one_way m n other = grind (arith, nat_tests)

facing_if : (b b' : Bool) (p q : Entry × Entry) (ups downs turns : Pairs) → b ≡ not b' → IsPermutation (ups ++ downs) turns
    → IsPermutation ((if b then p ∷ ups else ups) ++ ((if b' then q ∷ [] else []) ++ downs)) ((if b' then q else p) ∷ turns)
facing_if false true p q ups downs turns other h = IsPermutation-trans _ _ _ (IsPermutation-middle ups q downs) (IsPermutation-cons q _ _ h)
facing_if true false p q ups downs turns other h = IsPermutation-cons p _ _ h
facing_if true true p q ups downs turns other h = cc
facing_if false false p q ups downs turns other h = cc

-- those that rise from a row to the others, and those that rise from the others to it
facing : (a : Entry) (rows : List Entry) → All (λ (c : Entry). a.0 ≢ c.0) rows
    → IsPermutation (above rows a ++ flat_map (above (a ∷ [])) rows) (map (turned true a) rows)
facing a [] all = IsPermutation-refl []
facing a (c ∷ rows) all =
    facing_if (nat_lt a.0 c.0) (nat_lt c.0 a.0) (a, c) (c, a) (above rows a) (flat_map (above (a ∷ [])) rows) (map (turned true a) rows)
    (one_way a.0 c.0 (All-head (λ (c : Entry). a.0 ≢ c.0) c rows all))
    (facing a rows (All-tail (λ (c : Entry). a.0 ≢ c.0) c rows all))

-- no two rows have the same id
abbrev pub AreDistinct : List Entry → Type 0
AreDistinct [] = Unit {0}
AreDistinct (a ∷ rows) = All (λ (c : Entry). a.0 ≢ c.0) rows × AreDistinct rows

parts_moved : (first rest others turns more : Pairs) → IsPermutation rest (others ++ more) → IsPermutation (first ++ others) turns → (end : Pairs)
    → IsPermutation more end → IsPermutation (first ++ rest) (turns ++ end)
parts_moved first rest others turns more a b end c =
    IsPermutation-trans _ _ _ (IsPermutation-append_right first rest (others ++ more) a)
    (subst (λ (ps : Pairs). IsPermutation ps (turns ++ end)) (append_assoc first others more) (IsPermutation-append (first ++ others) turns more end b c))

rising-turned : (rows right : List Entry) → AreDistinct rows → IsPermutation (flat_map (above rows) rows) (turned_all true rows right)
rising-turned [] right distinct = IsPermutation-refl []
rising-turned (a ∷ rows) right distinct =
    let itself : above (a ∷ rows) a ≡ above rows a = ap (λ b. if b then (a, a) ∷ above rows a else above rows a) (never a.0) in
    subst (λ (ps : Pairs). IsPermutation (ps ++ flat_map (above (a ∷ rows)) rows) (map (turned true a) rows ++ turned_all true rows right)) (sym itself)
    (parts_moved (above rows a) (flat_map (above (a ∷ rows)) rows) (flat_map (above (a ∷ [])) rows) (map (turned true a) rows) (flat_map (above rows) rows)
    (apart a rows rows) (facing a rows distinct.0) (turned_all true rows right) (rising-turned rows right distinct.1))

product-turned : (left right : List Entry) → product left right ≡ turned_all false left right
product-turned [] right = refl
product-turned (a ∷ left) right = ap (λ ps. with_all a right ++ ps) (product-turned left right)

-- the pairs that a join looks at
pub considered_pairs-turned : (same : Bool) (left right : List Entry) → (same ≡ true → left ≡ right) → AreDistinct left
    → IsPermutation (considered_pairs same left right) (turned_all same left right)
considered_pairs-turned true left right one distinct =
    subst (λ (rows : List Entry). IsPermutation (filter rises (product left rows)) (turned_all true left right)) (one refl)
    (subst (λ ps. IsPermutation ps (turned_all true left right)) (sym (filter-flat left left)) (rising-turned left right distinct))
considered_pairs-turned false left right one distinct =
    subst (IsPermutation (product left right)) (product-turned left right) (IsPermutation-refl (product left right))
