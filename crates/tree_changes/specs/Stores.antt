-- Pages that hold a store: its state, and its trees on the pool.
use Rattle.std.specs.Prelude.{◌≡◌, ℕ, Bool, List, Some}
use Rattle.object_file.specs.ObjectFile.{Slots, slot_at}
use Rattle.slot_laws.specs.FreeSlots.{AreFreeSlots}
use Rattle.spb_defs.specs.State.{State}
use Rattle.store_check.specs.declared.profile.Profile.{Profile}
use Rattle.store_check.specs.Profile.{profile_in}
use Rattle.tree_state.specs.StoreTrees.{is_pool_page, tree_pages, KeepsTrees}
use Rattle.tree_forest.specs.Forests.{FillPool}

-- The pages hold the state and its trees, and read as this profile. The pool is that of the profile, and each page of it is
-- free or of one tree. The slots that are free are those of the pages.
pub record HoldsStore (home : ℕ → List ℕ) (in_pool : ℕ → Bool) (free : List ℕ) (slots : Slots) (profile : Profile) (s : State) : Type 0 where
  pub keeps : KeepsTrees home s
  pub profile_is : profile_in (home 1) ≡ Some profile
  pub pool_is : in_pool ≡ is_pool_page profile.cap
  pub pages_are : FillPool in_pool free (tree_pages home profile.roots)
  pub cap_is : slots.cap ≡ s.cap
  pub slots_are : AreFreeSlots s.cap (slot_at home) slots.free
