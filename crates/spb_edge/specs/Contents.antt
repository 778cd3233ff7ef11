-- What a disk in memory holds, and its crash states.
use Rattle.std.specs.Prelude.{◌≡◌, ◌⊎◌, ℕ, ◌+◌, ◌≤◌, max, List, [], ◌∷◌, ◌++◌, replicate}
use Rattle.spb_edge.specs.declared.contents.Extent.{Extent}
use Rattle.spb_edge.specs.Crash.{IsTornWrite}
use Rattle.spb_edge.specs.Disk.{overwritten_at}

-- the image as it reads, the one that the last sync kept, the ranges written since then in order, and
-- how many of them there is room for
pub record Contents : Type 0 where
  pub image : List ℕ
  pub kept : List ℕ
  pub unsynced : List Extent
  pub room : ℕ

-- the ranges, each torn over what the one before left
abbrev pub AreTornOver : List ℕ → List Extent → List ℕ → Type 0
AreTornOver kept [] c = c ≡ kept
AreTornOver kept (range ∷ ranges) c = (d : List ℕ) × (IsTornWrite range.at range.len kept d × AreTornOver d ranges c)

-- a crash leaves all of it, or the kept image with each range since torn
abbrev pub IsCrashState : Contents → List ℕ → Type 0
IsCrashState now c = (c ≡ now.image) ⊎ AreTornOver now.kept now.unsynced c

-- nothing was written yet
abbrev pub fresh_contents : List ℕ → ℕ → Contents
fresh_contents image room = record { image = image; kept = image; unsynced = []; room = room }

-- one more range was written, and this is the image since
abbrev pub with_range : ℕ → ℕ → List ℕ → Contents → Contents
with_range at count image now = record now { image = image; unsynced = now.unsynced ++ record { at = at; len = count } ∷ [] }

-- what was written is kept
abbrev pub synced_contents : Contents → Contents
synced_contents now = record now { kept = now.image; unsynced = [] }

-- each range filled with a byte
abbrev pub with_ranges_filled : ℕ → List ℕ → List Extent → List ℕ
with_ranges_filled byte image [] = image
with_ranges_filled byte image (range ∷ ranges) = with_ranges_filled byte (overwritten_at image range.at (replicate range.len byte)) ranges

-- each range begins within what the ones before make of an image of this many bytes, or at its end; and all of them
-- reach to this many bytes or further
abbrev pub ReachTo : ℕ → List Extent → ℕ → Type 0
ReachTo len [] least = least ≤ len
ReachTo len (range ∷ ranges) least = (range.at ≤ len) × ReachTo (max len (range.at + range.len)) ranges least
