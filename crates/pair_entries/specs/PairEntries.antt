-- The verdict on a pair of entries, and what is said to be damaged of it.
use Rattle.std.specs.Prelude.{ℕ, List, Result, Ok, Err, ◌⊎◌}
use Rattle.metric_laws.specs.Objects.{Object}
use Rattle.page_laws.specs.declared.errors.TreeError.{TreeError}
use Rattle.page_laws.specs.declared.errors.TreeError.TheVariants as tree
use Rattle.bptree_node.specs.declared.rows.Entry.{Entry}
use Rattle.object_file.specs.ObjectFile.{Slots}
use Rattle.pivot_map.specs.declared.row.Row.{Row}
use Rattle.join_window.specs.declared.window.Reaching.{Reaching}
use Rattle.range_entries.specs.Entries.{HoldsEntry, HasNoSlot, IsSlotRule, object_at}

-- ---- the rows of entries

-- the entry's id, the object that it names, and its cell
abbrev pub row_at : (ℕ → List ℕ) → Reaching → Row
row_at pages e = record { id = e.entry.id; object = object_at pages e.entry; vect = e.cell }

abbrev pub rows_at : (ℕ → List ℕ) → Reaching × Reaching → Row × Row
rows_at pages p = (row_at pages p.0, row_at pages p.1)

-- both slots hold their objects, which are admitted
abbrev pub HoldsPair : (Object → Type 0) → (ℕ → List ℕ) → (left right : ℕ) → Entry × Entry → Type 0
HoldsPair admitted pages left right p = HoldsEntry admitted pages left p.0 × HoldsEntry admitted pages right p.1

-- ---- the damage

-- what an error says to be damaged is the slot of one of the two
abbrev pub TellsOfPair : (Object → Type 0) → Slots → (ℕ → List ℕ) → (left right : ℕ) → Entry × Entry → TreeError → Type 0
TellsOfPair admitted slots pages left right p (tree.Damaged page r) =
    HasNoSlot admitted slots pages left p.0 page r ⊎ HasNoSlot admitted slots pages right p.1 page r
TellsOfPair admitted slots pages left right p tree.Fault = Unit {0}
TellsOfPair admitted slots pages left right p tree.Memory = Unit {0}

abbrev pub TellsPair : {A : Type 0} → (Object → Type 0) → Slots → (ℕ → List ℕ) → (left right : ℕ) → Entry × Entry → Result A TreeError → Type 0
TellsPair admitted slots pages left right p (Ok _) = Unit {0}
TellsPair admitted slots pages left right p (Err why) = TellsOfPair admitted slots pages left right p why

-- whatever the pages hold, the rule named is that of slots
abbrev pub TellsSlotRule : Slots → TreeError → Type 0
TellsSlotRule slots (tree.Damaged page r) = IsSlotRule slots page r
TellsSlotRule slots tree.Fault = Unit {0}
TellsSlotRule slots tree.Memory = Unit {0}

abbrev pub NamesSlotRule : {A : Type 0} → Slots → Result A TreeError → Type 0
NamesSlotRule slots (Ok _) = Unit {0}
NamesSlotRule slots (Err why) = TellsSlotRule slots why
