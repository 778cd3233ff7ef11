-- The first item of a list that passes a test.
use Rattle.std.proofs.Common.{◌≡◌, ℕ, ◌<◌, Bool, true, false, cond, Some, None, List, [], ◌∷◌, length, get_or, find, refl, sym, ap, ◌∙◌, zero, suc, arith}

-- it is at a place, and none before it passes
pub find-at : {X : Type 0} (p : X → Bool) (xs : List X) (place : ℕ) (x : X) → place < length xs → x ≡ get_or xs place x → p x ≡ true
    → ((k : ℕ) (d : X) → k < place → p (get_or xs k d) ≡ false) → find p xs ≡ Some x
find-at p [] place x below is passes before = absurd (omega (arith, below))
find-at p (y ∷ ys) zero x below is passes before =
    ap (λ b. cond b (Some y) (find p ys)) (ap p (sym is) ∙ passes) ∙ ap Some (sym is)
find-at p (y ∷ ys) (suc place) x below is passes before =
    let first : p y ≡ false = before 0 y (omega arith) in
    ap (λ b. cond b (Some y) (find p ys)) first ∙ find-at p ys place x (omega (arith, below)) is passes (λ k d h. before (suc k) d (omega (arith, h)))

-- none passes
pub find-none : {X : Type 0} (p : X → Bool) (xs : List X) → ((k : ℕ) (d : X) → k < length xs → p (get_or xs k d) ≡ false) → find p xs ≡ None
find-none p [] none = refl
find-none p (y ∷ ys) none =
    let first : p y ≡ false = none 0 y (omega arith) in
    ap (λ b. cond b (Some y) (find p ys)) first ∙ find-none p ys (λ k d h. none (suc k) d (omega (arith, h)))
