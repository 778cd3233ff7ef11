-- A fold over what a function makes of each item.
use Rattle.std.proofs.Common.{◌≡◌, ◌∙◌, ap, sym, ℕ, ◌+◌, ◌<◌, List, length, get_or, map, take}
use Rattle.std.specs.Prelude.{fold}
use Rattle.std.proofs.lemmas.List.Folds.{fold-map}
use Rattle.std.proofs.lemmas.List.Sums.{fold_more}

-- one item more
pub folded_more : {X Y Z : Type 0} (f : Y → Z → Y) (g : X → Z) (a : Y) (xs : List X) (i : ℕ) (d : X) → i < length xs
    → f (fold f a (map g (take i xs))) (g (get_or xs i d)) ≡ fold f a (map g (take (i + 1) xs))
folded_more f g a xs i d low =
    ap (λ b. f b (g (get_or xs i d))) (fold-map f g a (take i xs)) ∙ sym (fold_more (λ b x. f b (g x)) a xs i d low)
    ∙ sym (fold-map f g a (take (i + 1) xs))
