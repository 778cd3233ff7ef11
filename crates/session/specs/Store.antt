-- The store in memory as a state.
use Rattle.std.specs.Prelude.{◌≡◌, ℕ, ◌≤◌, IsTrue, Bool, List, [], true, false, All, length, map, sum_by, Some, None, if◌then◌else◌}
use Rattle.metrics_builtin.specs.Space.{fits, IsValid, dist}
use Rattle.spb_defs.specs.declared.TheConstants.{MEMORY_CAP, SAMPLE_LIMIT}
use Rattle.spb_defs.specs.State.{State, with_object}
use Rattle.spb_defs.specs.declared.Command.{Command}
use Rattle.spb_defs.specs.declared.Command.TheVariants.{Sample, Add, Discard, Get, Count, Range, Near, Join}
use Rattle.pivot_map.specs.declared.row.Row.{Row}
use Rattle.pivot_map.specs.Rows.{ArePivots, AreRows, entries_of}
use Rattle.scan_laws.specs.Tables.{members_of}
use Rattle.session.specs.declared.store.Store.{Store}

-- the state that the store stands for
abbrev pub state_of : Store → State
state_of store = record {
  space = store.space;
  wanted = store.wanted;
  pivots = store.pivots.items;
  curve = None;
  cap = MEMORY_CAP;
  samples = if store.sampling then Some store.samples.items else None;
  members = members_of (map entries_of store.tables);
}

-- the state with the object under the key
abbrev pub with_member : State → ℕ → ℕ → List ℕ → State
with_member s c id object = record s { members = with_object s.members c id object }

-- no samples are kept, unless the command is a sample
abbrev pub IsReady : Bool → Command → Type 0
IsReady sampling (Sample object) = Unit {0}
IsReady sampling (Add c id object) = sampling ≡ false
IsReady sampling (Discard c id) = sampling ≡ false
IsReady sampling (Get c id) = sampling ≡ false
IsReady sampling (Count c) = sampling ≡ false
IsReady sampling (Range c r object) = sampling ≡ false
IsReady sampling (Near c k object) = sampling ≡ false
IsReady sampling (Join c d r) = sampling ≡ false

-- the space fits, the samples and the pivots are objects of it, each of the four tables has rows by the pivots,
-- there are no more rows than there may be, and none while samples are kept
pub record IsStore (store : Store) : Type 0 where
  pub in_range : IsTrue (fits store.space)
  pub few_wanted : store.wanted ≤ 8
  pub samples : All (IsValid store.space) store.samples.items
  pub few_samples : length store.samples.items ≤ SAMPLE_LIMIT
  pub pivots : ArePivots (IsValid store.space) store.pivots.items
  pub rows : All (AreRows (IsValid store.space) (dist store.space) store.pivots.items) store.tables
  pub room : sum_by length store.tables ≤ MEMORY_CAP
  pub four : length store.tables ≡ 4
  pub none_yet : store.sampling ≡ true → All (λ (rows : List Row). rows ≡ []) store.tables
