-- Elements of lists, and of lists one after another.
use Rattle.std.proofs.Common.{◌≡◌, ◌⊎◌, inl, inr, List, [], ◌∷◌, refl, sym, subst, arith}
use Rattle.std.specs.Prelude.{map, Contains}
use Rattle.std.specs.List.{flat_map, AllByRecursion}
use Rattle.std.proofs.lemmas.List.Elements.{Contains-append_left, Contains-append_right, Contains-append_cases, All-contains, All-from_recursion}
use Rattle.bptree_node.specs.Lists.{all-front, all-back}

module _ {X : Type 0} where
  pub first_among : (x : X) (xs : List X) → Contains (x ∷ xs) x
  first_among x xs = (0, omega arith, refl)

  only_one : (x y : X) → Contains (y ∷ []) x → y ≡ x
  only_one x y (k, below, is) = let e : k ≡ 0 = omega arith in rw e at is

  pub among_cases : (x y : X) (xs : List X) → Contains (y ∷ xs) x → (y ≡ x) ⊎ Contains xs x
  among_cases x y xs among = elim (Contains-append_cases (y ∷ []) xs x among) [ inl first ↦ inl (only_one x y first) | inr rest ↦ inr rest ]

  pub among_rest : (x y : X) (xs : List X) → Contains xs x → Contains (y ∷ xs) x
  among_rest x y xs among = Contains-append_right (y ∷ []) xs x among

  -- what holds of all elements holds of one of them
  pub of_one : (P : X → Type 0) (xs : List X) (x : X) → AllByRecursion P xs → Contains xs x → P x
  of_one P xs x all among = All-contains P xs x (All-from_recursion P xs all) among

module _ {X Y : Type 0} (f : X → List Y) where
  -- an element of one of the lists
  pub among_lists : (xs : List X) (x : X) (y : Y) → Contains xs x → Contains (f x) y → Contains (flat_map f xs) y
  among_lists [] x y among there = absurd (omega (arith, among.1))
  among_lists (z ∷ zs) x y among there = elim (among_cases x z zs among) [
    | inl same ↦ Contains-append_left (f z) (flat_map f zs) y (subst (λ (w : X). Contains (f w) y) (sym same) there)
    | inr rest ↦ Contains-append_right (f z) (flat_map f zs) y (among_lists zs x y rest there)
  ]

  -- if another element is in each list that has this one
  pub beside : (xs : List X) (y z : Y) → ((x : X) → Contains (f x) y → Contains (f x) z) → Contains (flat_map f xs) y → Contains (flat_map f xs) z
  beside [] y z each among = absurd (omega (arith, among.1))
  beside (x ∷ xs) y z each among = elim (Contains-append_cases (f x) (flat_map f xs) y among) [
    | inl here ↦ Contains-append_left (f x) (flat_map f xs) z (each x here)
    | inr there ↦ Contains-append_right (f x) (flat_map f xs) z (beside xs y z each there)
  ]

  -- what holds of all elements of the lists holds of those of one of them
  pub all_of_list : (P : Y → Type 0) (xs : List X) (x : X) → AllByRecursion P (flat_map f xs) → Contains xs x → AllByRecursion P (f x)
  all_of_list P [] x all among = absurd (omega (arith, among.1))
  all_of_list P (z ∷ zs) x all among = elim (among_cases x z zs among) [
    | inl same ↦ subst (λ (w : X). AllByRecursion P (f w)) same (all-front P (f z) (flat_map f zs) all)
    | inr rest ↦ all_of_list P zs x (all-back P (f z) (flat_map f zs) all) rest
  ]

module _ {X Y : Type 0} (f : X → Y) where
  -- what holds of all images holds of that of one element
  pub all_of_image : (P : Y → Type 0) (xs : List X) (x : X) → AllByRecursion P (map f xs) → Contains xs x → P (f x)
  all_of_image P [] x all among = absurd (omega (arith, among.1))
  all_of_image P (z ∷ zs) x all among = elim (among_cases x z zs among) [
    | inl same ↦ subst (λ (w : X). P (f w)) same all.0
    | inr rest ↦ all_of_image P zs x all.1 rest
  ]

  -- what holds of all images, of the elements
  pub all_mapped : (P : Y → Type 0) (Q : X → Type 0) → ((x : X) → P (f x) → Q x) → (xs : List X) → AllByRecursion P (map f xs) → AllByRecursion Q xs
  all_mapped P Q each [] all = tt
  all_mapped P Q each (x ∷ xs) all = (each x all.0, all_mapped P Q each xs all.1)
