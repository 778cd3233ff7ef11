-- What holds of each item of a list.
use Rattle.std.specs.Prelude.{List, [], ◌∷◌, ◌++◌}
use Rattle.std.specs.List.{AllByRecursion}

module _ {A : Type 0} (P : A → Type 0) where
  pub all-front : (xs ys : List A) → AllByRecursion P (xs ++ ys) → AllByRecursion P xs
  all-front [] ys all = tt
  all-front (x ∷ xs) ys all = (all.0, all-front xs ys all.1)

  pub all-back : (xs ys : List A) → AllByRecursion P (xs ++ ys) → AllByRecursion P ys
  all-back [] ys all = all
  all-back (x ∷ xs) ys all = all-back xs ys all.1

  pub all-append : (xs ys : List A) → AllByRecursion P xs → AllByRecursion P ys → AllByRecursion P (xs ++ ys)
  all-append [] ys here there = there
  all-append (x ∷ xs) ys here there = (here.0, all-append xs ys here.1 there)

  pub all-weaker : (Q : A → Type 0) → ((x : A) → P x → Q x) → (xs : List A) → AllByRecursion P xs → AllByRecursion Q xs
  all-weaker Q weaker [] all = tt
  all-weaker Q weaker (x ∷ xs) all = (weaker x all.0, all-weaker Q weaker xs all.1)

  -- what holds of all holds of each
  pub all-each : ((x : A) → P x) → (xs : List A) → AllByRecursion P xs
  all-each each [] = tt
  all-each each (x ∷ xs) = (each x, all-each each xs)
