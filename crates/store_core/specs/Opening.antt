-- A store's file as it is opened: what its image says, and why it is refused.
use Rattle.std.specs.Prelude.{◌≡◌, ◌↔◌, ℕ, true, false, List, length, All, Some, Result, Ok, Err}
use Rattle.metrics_builtin.specs.Space.{IsValid}
use Rattle.spb_defs.specs.State.{State}
use Rattle.page_laws.specs.declared.rule.Rule.{Rule}
use Rattle.page_laws.specs.declared.rule.Rule.TheVariants as rule
use Rattle.redo_journal.specs.declared.layout.TheConstants.{HEADER_PAGE}
use Rattle.redo_journal.specs.Pages.{page as journal_page}
use Rattle.redo_journal.specs.Header.{IsHeader}
use Rattle.redo_journal.specs.Redo.{RecoversTo, has_open_gate}
use Rattle.redo_journal.specs.Change.{IsRedone}
use Rattle.store_check.specs.declared.profile.Profile.{Profile}
use Rattle.store_check.specs.Layout.{file_pages}
use Rattle.store_check.specs.Profile.{profile_in, IsInRange}
use Rattle.store_check.specs.Pivots.{HasPivots}
use Rattle.store_check.specs.Stands.{Stands, IsNoStore, IsClean, store_magic}
use Rattle.store_check.specs.Damage.{Breaks}
use Rattle.store_core.specs.declared.errors.OpenError.{OpenError}
use Rattle.store_core.specs.declared.errors.OpenError.TheVariants as refusal

-- The file was opened as far as its profile and its pivots: both images stand for the same pages, which are as many as
-- belong to the cap and hold the profile and the pivots; the journal of the new one is done, and each state that one of
-- them stands for is the other's.
pub record IsStarted (old new : List ℕ) (profile : Profile) (pivots : List (List ℕ)) : Type 0 where
  pub home : ℕ → List ℕ
  pub had : RecoversTo (file_pages profile.cap) old store_magic home
  pub has : RecoversTo (file_pages profile.cap) new store_magic home
  pub closed : has_open_gate new ≡ false
  pub reads : profile_in (home 1) ≡ Some profile
  pub in_range : IsInRange profile
  pub count : length pivots ≡ profile.pivots
  pub pivots_are : HasPivots home pivots
  pub objects : All (IsValid profile.space) pivots
  pub alike : (s : State) → Stands old s ↔ Stands new s

-- what a recovery of the journal leaves: the image as redone with a closed gate, or a header that isn't in its ranges
-- under an open gate
abbrev pub RecoversChange : ℕ → Result Unit OpenError → List ℕ → List ℕ → Type 0
RecoversChange total (Ok _) old new = IsClean total old × IsRedone total old new × (has_open_gate new ≡ false)
RecoversChange total (Err refusal.NotStore) old new = ⊥
RecoversChange total (Err (refusal.Damaged page broken)) old new = (page ≡ HEADER_PAGE) × (broken ≡ rule.Journal) × (has_open_gate old ≡ true)
    × (IsHeader total (journal_page old HEADER_PAGE) → ⊥)
RecoversChange total (Err refusal.DiskFault) old new = Unit {0}
RecoversChange total (Err refusal.Memory) old new = ⊥

-- the rules that are tested before a tree or a slot is read
abbrev pub IsFirstRule : Rule → Type 0
IsFirstRule rule.Size = Unit {0}
IsFirstRule rule.Journal = Unit {0}
IsFirstRule rule.Profile = Unit {0}
IsFirstRule rule.Pivot = Unit {0}
IsFirstRule broken = ⊥

-- what a refusal says of the image
abbrev pub Refuses : OpenError → List ℕ → Type 0
Refuses refusal.NotStore image = IsNoStore image
Refuses (refusal.Damaged page broken) image = IsFirstRule broken × Breaks image page broken
Refuses refusal.DiskFault image = Unit {0}
Refuses refusal.Memory image = Unit {0}
