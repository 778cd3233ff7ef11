-- What the pages before the journal hold: the profile and the pivots.
use Rattle.std.specs.Prelude.{◌≡◌, ℕ, ◌+◌, ◌/◌, ◌<◌, ◌==◌, true, false, if◌then◌else◌, List, length, All, slice_index_or, [], Some, None}
use Rattle.metrics_builtin.specs.declared.Space.{Space}
use Rattle.metrics_builtin.specs.Space.{IsValid}
use Rattle.page_laws.specs.declared.rule.Rule.TheVariants as rule
use Rattle.store_check.specs.declared.profile.Profile.{Profile}
use Rattle.store_check.specs.Layout.{file_pages}
use Rattle.store_check.specs.Profile.{format_in, is_format, profile_in, IsInRange}
use Rattle.store_check.specs.Pivots.{pivot_at, HasPivots}
use Rattle.store_check.specs.Damage.{IsPivot}
use Rattle.store_core.specs.declared.errors.OpenError.{OpenError}
use Rattle.store_core.specs.declared.errors.OpenError.TheVariants as refusal

-- ---- the profile

-- the pages of a file of this many hold this profile
pub record HoldsProfile (total : ℕ) (pages : ℕ → List ℕ) (profile : Profile) : Type 0 where
  pub reads : profile_in (pages 1) ≡ Some profile
  pub in_range : IsInRange profile
  pub total_is : file_pages profile.cap ≡ total

-- the profile asks for another number of pages
pub record AsksForOthers (total : ℕ) (pages : ℕ → List ℕ) : Type 0 where
  pub profile : Profile
  pub reads : profile_in (pages 1) ≡ Some profile
  pub other : file_pages profile.cap ≡ total → ⊥

-- the format is known, and a field isn't in its range
pub record HasBadField (pages : ℕ → List ℕ) : Type 0 where
  pub format : is_format (format_in (pages 1)) ≡ true
  pub field : profile_in (pages 1) ≡ None

-- ---- the pivots

-- the pages 2 and 3, as pages by their numbers
abbrev pub pivot_pages : List ℕ → List ℕ → ℕ → List ℕ
pivot_pages first second n = if n == 2 then first else second

-- these are the pivots of the profile, and the records behind them hold none
pub record HoldsPivots (profile : Profile) (pages : ℕ → List ℕ) (pivots : List (List ℕ)) : Type 0 where
  pub count : length pivots ≡ profile.pivots
  pub has : HasPivots pages pivots
  pub objects : All (IsValid profile.space) pivots

-- the first records, so many, hold these pivots, which are objects of the space
pub record HoldsSoFar (space : Space) (pages : ℕ → List ℕ) (many : ℕ) (pivots : List (List ℕ)) : Type 0 where
  pub count : length pivots ≡ many
  pub each : (i : ℕ) → i < many → pivot_at pages i ≡ Some (slice_index_or pivots i [])
  pub objects : All (IsValid space) pivots

-- a record on this page doesn't read, or not as what belongs there
pub record HasBadRecord (profile : Profile) (pages : ℕ → List ℕ) (page : ℕ) : Type 0 where
  pub place : ℕ
  pub below : place < 8
  pub page_is : page ≡ 2 + place / 4
  pub bad : IsPivot profile.space profile.pivots place (pivot_at pages place) → ⊥

-- what a refusal of the pivots says
abbrev pub RefusesPivots : Profile → (ℕ → List ℕ) → OpenError → Type 0
RefusesPivots profile pages refusal.NotStore = ⊥
RefusesPivots profile pages (refusal.Damaged page rule.Pivot) = HasBadRecord profile pages page
RefusesPivots profile pages (refusal.Damaged page broken) = ⊥
RefusesPivots profile pages refusal.DiskFault = Unit {0}
RefusesPivots profile pages refusal.Memory = Unit {0}

-- ---- both

-- the pages hold the profile and the pivots
pub record HoldsContent (total : ℕ) (pages : ℕ → List ℕ) (profile : Profile) (pivots : List (List ℕ)) : Type 0 where
  pub profiled : HoldsProfile total pages profile
  pub pivots_are : HoldsPivots profile pages pivots

-- what holds of the profile and the pivots over every disk: they are in their ranges, belong to each other, and ask for so
-- many pages
pub record IsSound (total : ℕ) (profile : Profile) (pivots : List (List ℕ)) : Type 0 where
  pub in_range : IsInRange profile
  pub total_is : file_pages profile.cap ≡ total
  pub count : length pivots ≡ profile.pivots
  pub objects : All (IsValid profile.space) pivots

-- a record of the pivots of the profile on this page doesn't read, or not as what belongs there
pub record HasBadPivots (total : ℕ) (pages : ℕ → List ℕ) (page : ℕ) : Type 0 where
  pub profile : Profile
  pub profiled : HoldsProfile total pages profile
  pub record_is : HasBadRecord profile pages page

-- what a refusal of the profile or the pivots says
abbrev pub RefusesContent : ℕ → (ℕ → List ℕ) → OpenError → Type 0
RefusesContent total pages refusal.NotStore = is_format (format_in (pages 1)) ≡ false
RefusesContent total pages (refusal.Damaged page rule.Profile) = (page ≡ 1) × HasBadField pages
RefusesContent total pages (refusal.Damaged page rule.Size) = (page ≡ 0) × AsksForOthers total pages
RefusesContent total pages (refusal.Damaged page rule.Pivot) = HasBadPivots total pages page
RefusesContent total pages (refusal.Damaged page broken) = ⊥
RefusesContent total pages refusal.DiskFault = Unit {0}
RefusesContent total pages refusal.Memory = Unit {0}
