-- What holds of all items of a list, of a part of it.
use Rattle.std.proofs.Common.{◌≡◌, ℕ, ◌+◌, ◌<◌, List, [], ◌∷◌, ◌++◌, length, set, take, drop, sym, ap, ap₂, subst, ◌∙◌, arith, append_assoc, length-append}
use Rattle.std.specs.List.{AllByRecursion, refill, replace_range, insert as inserted}
use Rattle.std.proofs.lemmas.List.{take-append-drop, take-set, drop-set, length-set, length-take-le, take_at, drop_at}
use Rattle.bptree_node.specs.Lists.{all-front, all-back}

module _ {A : Type 0} (P : A → Type 0) (n : ℕ) (xs : List A) where
  pub all-take : AllByRecursion P xs → AllByRecursion P (take n xs)
  all-take all = all-front P (take n xs) (drop n xs) (subst (AllByRecursion P) (sym (take-append-drop n xs)) all)

  pub all-drop : AllByRecursion P xs → AllByRecursion P (drop n xs)
  all-drop all = all-back P (take n xs) (drop n xs) (subst (AllByRecursion P) (sym (take-append-drop n xs)) all)

-- ---- an item that is written, and another one inserted behind it

module _ {A : Type 0} (xs ws : List A) (i : ℕ) (y : A) (same : ws ≡ xs) (below : i < length xs) where
  pub item_written : refill (length xs) xs (set ws i y) ≡ replace_range xs i (i + 1) (y ∷ [])
  item_written =
      let long : length (set ws i y) ≡ length xs = length-set ws i y ∙ ap length same in
      let inside : i < length ws = subst (λ (zs : List A). i < length zs) (sym same) below in
      take_at (set ws i y) (drop (length (set ws i y)) xs) (length xs) long
      ∙ sym (take-append-drop i (set ws i y))
      ∙ ap₂ (λ (front back : List A). front ++ back) (take-set ws i y) (drop-set ws i y inside)
      ∙ ap (λ (zs : List A). take i zs ++ y ∷ drop (i + 1) zs) same
      ∙ sym (append_assoc (take i xs) (y ∷ []) (drop (i + 1) xs))

  pub item_inserted : (z : A) → inserted (refill (length xs) xs (set ws i y)) (i + 1) z ≡ replace_range xs i (i + 1) (y ∷ z ∷ [])
  item_inserted z =
      let front : List A = take i xs ++ y ∷ [] in
      let rest : List A = drop (i + 1) xs in
      let long : length front ≡ i + 1 = length-append (take i xs) (y ∷ []) ∙ ap (λ (k : ℕ). k + 1) (length-take-le i xs (omega (arith, below))) in
      ap (λ (zs : List A). inserted zs (i + 1) z) item_written
      ∙ ap₂ (λ (one two : List A). one ++ z ∷ two) (take_at front rest (i + 1) long) (drop_at front rest (i + 1) long)
      ∙ append_assoc (take i xs) (y ∷ []) (z ∷ rest)
      ∙ sym (append_assoc (take i xs) (y ∷ z ∷ []) rest)
