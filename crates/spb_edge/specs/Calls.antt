-- What every call on a disk promises, whatever it answers.
use Rattle.std.specs.Prelude.{◌≡◌, ℕ, Bool}

module _ {D : Type 0} (is_known knows_crashes : D → Bool) where
  -- the same is known of the disk as before
  abbrev pub StaysKnown : D → D → Type 0
  StaysKnown old new = (is_known new ≡ is_known old) × (knows_crashes new ≡ knows_crashes old)

  -- the same of a call within the disk's size, which stays as it was
  abbrev pub DiskContinues : (D → ℕ) → D → D → Type 0
  DiskContinues size_of old new = StaysKnown old new × (size_of new ≡ size_of old)
