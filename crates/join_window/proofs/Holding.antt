-- A window holds what reaches a key, and the pairs with it are the window pairs.
use Rattle.std.proofs.Common.{◌≡◌, ℕ, ◌≤◌, Bool, true, false, List, [], ◌∷◌, ◌++◌, refl, sym, ap, ◌∙◌, arith}
use Rattle.std.specs.Prelude.{nat_le, if◌then◌else◌, filter, map}
use Rattle.std.proofs.lemmas.Bool.Decides.{nat_tests}
use Rattle.std.proofs.lemmas.List.Elements.{filter-append}
use Rattle.join_window.specs.declared.window.Reaching.{Reaching}
use Rattle.join_window.specs.WindowPairs.{reaches, is_window_pair, pairs_behind, HoldsFrom}

-- ---- a filter after a weaker one

kept_if : {A : Type 0} (p q : A → Bool) (x : A) (xs ys : List A) (b c : Bool) → p x ≡ b → q x ≡ c → (c ≡ true → b ≡ true) → filter q xs ≡ ys
    → filter q (if b then x ∷ xs else xs) ≡ (if c then x ∷ ys else ys)
kept_if p q x xs ys true c is are weaker rest = ap (λ (b : Bool). if b then x ∷ filter q xs else filter q xs) are ∙ ap (λ l. if c then x ∷ l else l) rest
kept_if p q x xs ys false false is are weaker rest = rest
kept_if p q x xs ys false true is are weaker rest = absurd (let clash : false ≡ true = weaker refl in cc)

pub filter-weaker : {A : Type 0} (p q : A → Bool) → ((x : A) → q x ≡ true → p x ≡ true) → (xs : List A) → filter q (filter p xs) ≡ filter q xs
filter-weaker p q weaker [] = refl
filter-weaker p q weaker (x ∷ xs) = kept_if p q x (filter p xs) (filter q xs) (p x) (q x) refl refl (weaker x) (filter-weaker p q weaker xs)

less_reached : (least key upper : ℕ) → least ≤ key → nat_le key upper ≡ true → nat_le least upper ≡ true
less_reached least key upper h reached = grind (arith, nat_tests)

-- ---- a window that is cleaned and added to

pub holds-added : (least key : ℕ) (window seen : List Reaching) (e : Reaching) → least ≤ key → HoldsFrom least window seen
    → HoldsFrom key (filter (reaches key) window ++ (e ∷ [])) (seen ++ (e ∷ []))
holds-added least key window seen e rises holds later above =
    filter-append (reaches later) (filter (reaches key) window) (e ∷ [])
    ∙ ap (λ l. l ++ filter (reaches later) (e ∷ []))
    (filter-weaker (reaches key) (reaches later) (λ x reached. less_reached key later x.upper above reached) window ∙ holds later (omega (arith, rises, above)))
    ∙ sym (filter-append (reaches later) seen (e ∷ []))

-- ---- the pairs with one that comes

pair_if : (e a : Reaching) (b : Bool) (ps : List (Reaching × Reaching)) (xs : List Reaching) → ps ≡ map (λ a. (a, e)) xs
    → (if b then (a, e) ∷ ps else ps) ≡ map (λ a. (a, e)) (if b then a ∷ xs else xs)
pair_if e a true ps xs rest = ap (λ l. (a, e) ∷ l) rest
pair_if e a false ps xs rest = rest

pairs_with : (e : Reaching) (seen : List Reaching) → filter is_window_pair (map (λ a. (a, e)) seen) ≡ map (λ a. (a, e)) (filter (reaches e.entry.key) seen)
pairs_with e [] = refl
pairs_with e (a ∷ seen) =
    pair_if e a (reaches e.entry.key a) (filter is_window_pair (map (λ a. (a, e)) seen)) (filter (reaches e.entry.key) seen) (pairs_with e seen)

pub pairs-next : (seen rest : List Reaching) (e : Reaching) → filter is_window_pair (pairs_behind seen (e ∷ rest))
    ≡ map (λ a. (a, e)) (filter (reaches e.entry.key) seen) ++ filter is_window_pair (pairs_behind (seen ++ (e ∷ [])) rest)
pairs-next seen rest e =
    filter-append is_window_pair (map (λ a. (a, e)) seen) (pairs_behind (seen ++ (e ∷ [])) rest)
    ∙ ap (λ l. l ++ filter is_window_pair (pairs_behind (seen ++ (e ∷ [])) rest)) (pairs_with e seen)
