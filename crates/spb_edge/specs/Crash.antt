-- Crash states: what a crash may leave of an image, and at which moments.
--
-- A disk has a moment, a number that doesn't fall. `crash_states c` says that a crash now may leave the
-- image c, and `crash_states_since t c` that a crash at some moment from t on may have left it.
use Rattle.std.specs.Prelude.{◌≡◌, ◌⊎◌, ℕ, ◌+◌, ◌<◌, ◌≤◌, max, List, length, slice_index}

-- the images are equal outside a range
abbrev pub EqualOutside : ℕ → ℕ → List ℕ → List ℕ → Type 0
EqualOutside from to old new = (k : ℕ) → k < length old → (k < from) ⊎ (to ≤ k) → slice_index new k ≡ slice_index old k

-- a write of this many bytes, cut short by a crash: any bytes in its range, and any part of the growth past the old
-- end; the same elsewhere
pub record IsTornWrite (at count : ℕ) (old new : List ℕ) : Type 0 where
  pub no_shorter : length old ≤ length new
  pub no_longer : length new ≤ max (length old) (at + count)
  pub alike : EqualOutside at (at + count) old new

-- each crash state now follows by a step from one before
abbrev pub FollowsBy : (List ℕ → List ℕ → Type 0) → (List ℕ → Type 0) → (List ℕ → Type 0) → Type 0
FollowsBy step old new = (c : List ℕ) → new c → (d : List ℕ) × old d × step d c

-- each crash state now was one before
abbrev pub Includes : (List ℕ → Type 0) → (List ℕ → Type 0) → Type 0
Includes old new = (c : List ℕ) → new c → old c

-- this image is the only crash state: nothing is pending
abbrev pub IsDurable : List ℕ → (List ℕ → Type 0) → Type 0
IsDurable image crash_states = (c : List ℕ) → crash_states c → c ≡ image

-- Time goes on: what a crash since t may have left is what it might have left before the step, or what
-- it may leave now.
pub record Elapses (before now : ℕ) (past since : ℕ → List ℕ → Type 0) (crash_states : List ℕ → Type 0) : Type 0 where
  pub later : before ≤ now
  pub nothing_else : (t : ℕ) (c : List ℕ) → t ≤ before → since t c → past t c ⊎ crash_states c
  pub keeps : (t : ℕ) (c : List ℕ) → t ≤ before → past t c → since t c

-- A run from one state of a disk to another leaves only images that have P, whenever a crash comes.
pub record CrashesLeaveOnly {D : Type 0} (moment : D → ℕ) (crash_states_since : D → ℕ → List ℕ → Type 0) (old new : D) (P : List ℕ → Type 0) : Type 0 where
  pub later : moment old ≤ moment new
  pub each : (c : List ℕ) → crash_states_since new (moment old) c → P c
  -- for a run that began earlier
  pub before : (t : ℕ) (c : List ℕ) → t ≤ moment old → crash_states_since new t c → crash_states_since old t c ⊎ P c
