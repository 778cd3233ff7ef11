-- The state that pages read as.
use Rattle.std.specs.Prelude.{ℕ, List, [], map, Option, Some, None}
use Rattle.std.specs.List.{range_with_len}
use Rattle.answer_lists.specs.Order.{sorted_by}
use Rattle.spb_defs.specs.State.{State}
use Rattle.scan_laws.specs.Tables.{key_before}
use Rattle.store_check.specs.declared.profile.Profile.{Profile}
use Rattle.store_check.specs.Pivots.{pivot_at}
use Rattle.store_check.specs.Stands.{placed_members}

-- the object of a record that reads
abbrev pub object_or : Option (List ℕ) → List ℕ → List ℕ
object_or None other = other
object_or (Some object) other = object

-- the objects of the first records of pivots
unfoldable pub pivots_in : (ℕ → List ℕ) → ℕ → List (List ℕ)
pivots_in pages n = map (λ i. object_or (pivot_at pages i) []) (range_with_len 0 n)

-- the state of this profile, with the pivots and the members that the pages hold
abbrev pub state_in : (ℕ → List ℕ) → Profile → State
state_in pages profile = record {
  space = profile.space;
  wanted = profile.pivots;
  pivots = pivots_in pages profile.pivots;
  curve = Some profile.curve;
  cap = profile.cap;
  samples = None;
  members = sorted_by key_before (placed_members profile.cap pages);
}
