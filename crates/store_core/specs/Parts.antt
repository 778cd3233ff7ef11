-- What an opening is, by what it keeps and by the disk that it was begun with.
use Rattle.std.specs.Prelude.{◌≡◌, ℕ, List, []}
use Rattle.redo_journal.specs.Journal.{disk_of, total_of, staged_of, HasPages}
use Rattle.store_check.specs.declared.profile.Profile.{Profile}
use Rattle.store_core.specs.declared.opening.Opening.{Opening}
use Rattle.store_core.specs.Content.{IsSound}

module _ {D : Type 0} where
  -- the disk as it is now
  abbrev pub disk_in : Opening D → D
  disk_in opening = disk_of opening.journal

  -- the profile
  abbrev pub profile_of : Opening D → Profile
  profile_of opening = opening.profile

  -- the pivots
  abbrev pub pivots_of : Opening D → List (List ℕ)
  pivots_of opening = opening.pivots.items

  -- the disk holds as many whole pages as belong to the cap, no page is staged, and the profile and the pivots are sound
  pub record IsReady (size_of : D → ℕ) (opening : Opening D) : Type 0 where
    pub pages : HasPages size_of opening.journal
    pub none : staged_of opening.journal ≡ []
    pub sound : IsSound (total_of opening.journal) opening.profile opening.pivots.items
