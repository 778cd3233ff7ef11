-- What is said of the image of a disk, if it is known.
use Rattle.std.proofs.Common.{ℕ, Bool, true, false, IsTrue, List, Some, None, refl}
use Rattle.std.specs.Prelude.{if◌then◌else◌, IfSome}
use Rattle.spb_defs.specs.State.{State}
use Rattle.store_check.specs.Stands.{Stands}
use Rattle.spb_top.specs.Outside.{known_image}
use Rattle.spb_top.specs.Causes.{IsKnownStore, IsWhole}

some_if : (b : Bool) (x : List ℕ) (P : List ℕ → Type 0) → (IsTrue b → P x) → IfSome (if b then Some x else None) P
some_if true x P holds = holds refl
some_if false x P holds = tt

store_if : (b : Bool) (x : List ℕ) (s : State) → IsKnownStore (if b then Some x else None) s → IsTrue b × Stands x s
store_if true x s stands = (refl, stands)
store_if false x s none = absurd none

whole_if : (b : Bool) (x : List ℕ) → IsWhole (if b then Some x else None) → IsTrue b × ((s : State) × Stands x s)
whole_if true x stands = (refl, stands)
whole_if false x none = absurd none

module _ {D : Type 0} (is_known : D → Bool) (image : D → List ℕ) (disk : D) where
  -- what holds of the image wherever it is known
  pub if_known : (P : List ℕ → Type 0) → (IsTrue (is_known disk) → P (image disk)) → IfSome (known_image is_known image disk) P
  if_known = some_if (is_known disk) (image disk)

  -- the image is known, and stands for the state
  pub known_store : (s : State) → IsKnownStore (known_image is_known image disk) s → IsTrue (is_known disk) × Stands (image disk) s
  known_store = store_if (is_known disk) (image disk)

  -- the image is known, and that of a store
  pub known_whole : IsWhole (known_image is_known image disk) → IsTrue (is_known disk) × ((s : State) × Stands (image disk) s)
  known_whole = whole_if (is_known disk) (image disk)
