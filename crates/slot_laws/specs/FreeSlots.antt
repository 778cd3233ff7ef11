-- The free slots.
use Rattle.std.specs.Prelude.{◌≡◌, ℕ, ◌<◌, Bool, true, false, List}
use Rattle.page_laws.specs.Pages.{is_among, AreFree}
use Rattle.object_file.specs.Slots.{Slot, Free, Holds, Broken}
use Rattle.object_file.specs.ObjectFile.{is_slot}

-- whether the slot is free
abbrev pub is_free : Slot → Bool
is_free Free = true
is_free (Holds collection id object) = false
is_free Broken = false

-- the numbers are those of the free slots below cap, each once
pub record AreFreeSlots (cap : ℕ) (slots : ℕ → Slot) (free : List ℕ) : Type 0 where
  pub are : AreFree (is_slot cap) free
  pub each : (slot : ℕ) → slot < cap → is_among slot free ≡ is_free (slots slot)
