-- A store's file once its profile and its pivots are read: what its image says, and why it doesn't open.
use Rattle.std.specs.Prelude.{◌≡◌, ℕ, ◌*◌, false, List, length, All, Some}
use Rattle.metrics_builtin.specs.Space.{IsValid}
use Rattle.page_laws.specs.declared.rule.Rule.{Rule}
use Rattle.page_laws.specs.declared.rule.Rule.TheVariants as rule
use Rattle.redo_journal.specs.declared.layout.TheConstants.{PAGE_SIZE}
use Rattle.redo_journal.specs.Pages.{page, magic}
use Rattle.redo_journal.specs.Redo.{has_open_gate}
use Rattle.page_store.specs.PageStore.{PagesView}
use Rattle.store_check.specs.declared.profile.Profile.{Profile}
use Rattle.store_check.specs.Layout.{file_pages}
use Rattle.store_check.specs.Profile.{profile_in}
use Rattle.store_check.specs.Pivots.{HasPivots}
use Rattle.store_check.specs.Stands.{store_magic}
use Rattle.store_check.specs.Damage.{Breaks}
use Rattle.store_core.specs.declared.errors.OpenError.{OpenError}
use Rattle.store_core.specs.declared.errors.OpenError.TheVariants as refusal

-- the image has the length of its cap, the magic and a closed gate, and its pages hold the profile and the pivots, which
-- are objects of the space
pub record IsOpened (image : List ℕ) (profile : Profile) (pivots : List (List ℕ)) : Type 0 where
  pub size : length image ≡ PAGE_SIZE * file_pages profile.cap
  pub marks_are : magic image ≡ store_magic
  pub closed : has_open_gate image ≡ false
  pub reads : profile_in (page image 1) ≡ Some profile
  pub count : length pivots ≡ profile.pivots
  pub pivots_are : HasPivots (page image) pivots
  pub objects : All (IsValid profile.space) pivots

-- the rules of the trees and the slots, while all trees are empty
abbrev pub IsLastRule : Rule → Type 0
IsLastRule rule.Page = Unit {0}
IsLastRule rule.Slot = Unit {0}
IsLastRule broken = ⊥

-- what a refusal is at most, whatever the disk is
abbrev pub IsLastRefusal : OpenError → Type 0
IsLastRefusal refusal.NotStore = ⊥
IsLastRefusal (refusal.Damaged page broken) = IsLastRule broken
IsLastRefusal refusal.DiskFault = Unit {0}
IsLastRefusal refusal.Memory = Unit {0}

-- what a refusal says of the image
abbrev pub RefusesOpened : OpenError → List ℕ → Type 0
RefusesOpened refusal.NotStore image = ⊥
RefusesOpened (refusal.Damaged page broken) image = IsLastRule broken × Breaks image page broken
RefusesOpened refusal.DiskFault image = Unit {0}
RefusesOpened refusal.Memory image = Unit {0}

-- the reference to the disk, its pages and the range of the pool are the same
pub record HasSameRange {D : Type 0} (old new : PagesView D) : Type 0 where
  pub same_name : new.name ≡ old.name
  pub same_total : new.total ≡ old.total
  pub same_first : new.first ≡ old.first
  pub same_count : new.count ≡ old.count
