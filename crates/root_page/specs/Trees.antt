-- A profile page with other roots for a collection.
use Rattle.std.specs.Prelude.{◌≡◌, ℕ, ◌+◌, IsTrue, List, slice_set, Some}
use Rattle.page_laws.specs.declared.root.Root.{Root}
use Rattle.store_check.specs.declared.profile.Profile.{Profile}
use Rattle.store_check.specs.Profile.{is_root, are_paired, profile_in}
use Rattle.root_page.specs.declared.trees.Trees.{Trees}

-- the profile with these roots for the two trees of a collection
abbrev pub with_trees : Profile → ℕ → Trees → Profile
with_trees p c trees = record p { roots = slice_set (slice_set p.roots c trees.curve) (4 + c) trees.ids }

-- two roots that trees may have; the trees are both empty, or neither is
pub record AreRootsOf (trees : Trees) : Type 0 where
  pub curve_is : IsTrue (is_root trees.curve)
  pub ids_is : IsTrue (is_root trees.ids)
  pub paired : IsTrue (are_paired trees.curve trees.ids)

-- where the first page reads as a profile, the second one reads as it with these roots, if trees may have them
abbrev pub SetsTrees : ℕ → Trees → List ℕ → List ℕ → Type 0
SetsTrees c trees old new = (p : Profile) → profile_in old ≡ Some p → AreRootsOf trees → profile_in new ≡ Some (with_trees p c trees)
