-- The state of a store: what every command is answered from.
use Rattle.std.specs.Prelude.{◌≡◌, ℕ, ◌==◌, ◌^◌, ◌<◌, ◌≤◌, IsTrue, Bool, true, false, nat_le, List, [], length, min, count_by, All, Option, Some, None, IfSome, if◌then◌else◌}
use Rattle.std.specs.List.{filter_map}
use Rattle.std.specs.List.Sorted.{IsStrictlySortedBy}
use Rattle.std.specs.Map.{lookup, remove_entry, keys_of}
use Rattle.std.specs.BTreeMap.{is_at, insert_entry}
use Rattle.std.specs.Ordering.{nat_cmp, ordering_then}
use Rattle.std.specs.declared.cmp.Ordering.{Ordering}
use Rattle.metric_laws.specs.Objects.{Object}
use Rattle.metrics_builtin.specs.declared.Space.{Space}
use Rattle.metrics_builtin.specs.Space.{fits, IsValid, dist}
use Rattle.spb_defs.specs.declared.TheConstants.{MEMORY_CAP, SAMPLE_LIMIT, PIVOT_LIMIT}
use Rattle.spb_defs.specs.declared.CurveKind.{CurveKind}
use Rattle.spb_defs.specs.declared.CurveKind.TheVariants.{Z, Hilbert}
use Rattle.spb_defs.specs.Choice.{chosen_samples}
use Rattle.spb_defs.specs.Scans.{Entry}

-- a collection and an id
abbrev pub Key : Type 0
Key = ℕ × ℕ

-- keys in order: by collection, then by id
abbrev pub key_cmp : Key → Key → Ordering
key_cmp a b = ordering_then (nat_cmp a.0 b.0) (nat_cmp a.1 b.1)

-- a finite map from keys to objects, as its entries in the order of the keys
abbrev pub Members : Type 0
Members = List (Key × List ℕ)

-- A space; how many pivots are wanted, and the pivots; the curve of a store in a file; the most members that there may
-- be; the samples while they are kept; and the members.
pub record State : Type 0 where
  pub space : Space
  pub wanted : ℕ
  pub pivots : List Object
  pub curve : Option CurveKind
  pub cap : ℕ
  pub samples : Option (List Object)
  pub members : Members

-- the store in memory before the first line, with this many pivots wanted
abbrev pub empty_in_memory : Space → ℕ → State
empty_in_memory space wanted =
    record { space = space; wanted = wanted; pivots = []; curve = None; cap = MEMORY_CAP; samples = Some []; members = [] }

-- the store in a file before the first line: its pivots were chosen when it was made
abbrev pub empty_in_file : Space → CurveKind → List Object → ℕ → State
empty_in_file space curve pivots cap =
    record { space = space; wanted = length pivots; pivots = pivots; curve = Some curve; cap = cap; samples = None; members = [] }

-- whether pairs may be asked for: not over the Hilbert curve
abbrev pub allows_joins : Option CurveKind → Bool
allows_joins None = true
allows_joins (Some Z) = true
allows_joins (Some Hilbert) = false

-- the pivots once the samples are closed: those chosen from the samples, as many as are wanted or as there are
abbrev pub pivots_after_sampling : State → Option (List Object) → List Object
pivots_after_sampling s None = s.pivots
pivots_after_sampling s (Some kept) = chosen_samples (dist s.space) kept (min s.wanted (length kept))

-- the state with its samples closed
abbrev pub with_samples_closed : State → State
with_samples_closed s = record s { pivots = pivots_after_sampling s s.samples; samples = None }

-- the object under a key
abbrev pub object_at : State → ℕ → ℕ → Option (List ℕ)
object_at s c id = lookup (is_at (key_cmp (c, id))) s.members

-- there are as many members as there may be
abbrev pub is_full : State → Bool
is_full s = nat_le s.cap (length s.members)

-- the members with the object under the key
abbrev pub with_object : Members → ℕ → ℕ → List ℕ → Members
with_object members c id object = insert_entry key_cmp members (c, id) object

-- the members without what is under the key
abbrev pub without_object : Members → ℕ → ℕ → Members
without_object members c id = remove_entry (is_at (key_cmp (c, id))) members

-- how many members the collection has
abbrev pub member_count : Members → ℕ → ℕ
member_count members c = count_by (λ member. member.0.0 == c) members

-- the samples, while they are kept: objects of the space, and no more than there may be
abbrev pub AreSamples : Space → Option (List Object) → Type 0
AreSamples space samples = IfSome samples (λ kept. All (IsValid space) kept × (length kept ≤ SAMPLE_LIMIT))

-- a key is of one of the four collections, and its id is in 32 bits
abbrev pub IsMemberKey : Key → Type 0
IsMemberKey key = (key.0 < 4) × (key.1 < 2 ^ 32)

-- What holds of every state that lines lead to: the space fits; the members are a finite map from keys to objects of
-- the space, within the cap; samples and pivots are objects of the space, within their limits; while samples are kept
-- there are no pivots and no members yet; and a store in a file keeps no samples and wants the pivots that it has.
pub record IsState (s : State) : Type 0 where
  pub in_range : IsTrue (fits s.space)
  pub order : IsStrictlySortedBy key_cmp (keys_of s.members)
  pub room : length s.members ≤ s.cap
  pub keys : All (λ member. IsMemberKey member.0) s.members
  pub objects : All (λ member. IsValid s.space member.1) s.members
  pub samples : AreSamples s.space s.samples
  pub pivots : All (IsValid s.space) s.pivots
  pub few_pivots : length s.pivots ≤ s.wanted
  pub few_wanted : s.wanted ≤ PIVOT_LIMIT
  pub sampling : IfSome s.samples (λ kept. (s.pivots ≡ []) × (s.members ≡ []))
  pub in_file : IfSome s.curve (λ curve. (s.samples ≡ None) × (s.wanted ≡ length s.pivots))

-- the row of a member, if it is in the collection
abbrev pub entry_in : ℕ → Key × List ℕ → Option Entry
entry_in c member = if member.0.0 == c then Some (member.0.1, member.1) else None

-- the rows of a collection, by ascending id
unfoldable pub entries_in : Members → ℕ → List Entry
entries_in members c = filter_map (entry_in c) members
