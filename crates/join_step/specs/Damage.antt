-- Why the judging of an entry's pairs says that pages are damaged.
use Rattle.std.specs.Prelude.{ℕ, List, Result, Ok, Err, Contains, ◌⊎◌}
use Rattle.metric_laws.specs.Objects.{Object}
use Rattle.page_laws.specs.declared.errors.TreeError.{TreeError}
use Rattle.page_laws.specs.declared.errors.TreeError.TheVariants as tree
use Rattle.page_laws.specs.declared.rule.Rule.{Rule}
use Rattle.bptree_node.specs.declared.rows.Entry.{Entry}
use Rattle.object_file.specs.ObjectFile.{Slots}
use Rattle.join_window.specs.declared.window.Reaching.{Reaching}
use Rattle.range_entries.specs.Entries.{HasNoKey, HasNoSlot}
use Rattle.join_step.specs.declared.placing.Placing.{Placing}
use Rattle.join_step.specs.Meetings.{placed, reaching}

-- of an entry that comes and one of those held, one's slot is free or holds no such object
pub record HasBrokenPair (admitted : Object → Type 0) (slots : Slots) (pages : ℕ → List ℕ) (left right : ℕ) (placing : Placing) (later : Reaching)
    (held : List Reaching) (page : ℕ) (r : Rule) : Type 0 where
  pub earlier : Reaching
  pub among : Contains held earlier
  pub broken : HasNoSlot admitted slots pages left (placed placing earlier later).0.entry page r
      ⊎ HasNoSlot admitted slots pages right (placed placing earlier later).1.entry page r

abbrev pub TellsOfPairs : (Object → Type 0) → Slots → (ℕ → List ℕ) → (left right : ℕ) → Placing → Reaching → List Reaching → TreeError → Type 0
TellsOfPairs admitted slots pages left right placing later held (tree.Damaged page r) =
    HasBrokenPair admitted slots pages left right placing later held page r
TellsOfPairs admitted slots pages left right placing later held tree.Fault = Unit {0}
TellsOfPairs admitted slots pages left right placing later held tree.Memory = Unit {0}

-- what an error says to be damaged is the slot of an entry of such a pair
abbrev pub TellsPairs : {A : Type 0} → (Object → Type 0) → Slots → (ℕ → List ℕ) → (left right : ℕ) → Placing → Reaching → List Reaching → Result A TreeError
    → Type 0
TellsPairs admitted slots pages left right placing later held (Ok _) = Unit {0}
TellsPairs admitted slots pages left right placing later held (Err why) = TellsOfPairs admitted slots pages left right placing later held why

abbrev pub TellsOfMeeting : (Object → Type 0) → (axes bits radius : ℕ) → Slots → (ℕ → List ℕ) → (left right : ℕ) → Placing → Entry → List Reaching
    → TreeError → Type 0
TellsOfMeeting admitted axes bits radius slots pages left right placing e held (tree.Damaged page r) =
    HasNoKey axes bits e page r ⊎ HasBrokenPair admitted slots pages left right placing (reaching axes bits radius e) held page r
TellsOfMeeting admitted axes bits radius slots pages left right placing e held tree.Fault = Unit {0}
TellsOfMeeting admitted axes bits radius slots pages left right placing e held tree.Memory = Unit {0}

-- what an error says to be damaged is the key of the entry that comes, or the slot of an entry of such a pair
abbrev pub TellsMeeting : {A : Type 0} → (Object → Type 0) → (axes bits radius : ℕ) → Slots → (ℕ → List ℕ) → (left right : ℕ) → Placing → Entry
    → List Reaching → Result A TreeError → Type 0
TellsMeeting admitted axes bits radius slots pages left right placing e held (Ok _) = Unit {0}
TellsMeeting admitted axes bits radius slots pages left right placing e held (Err why) =
    TellsOfMeeting admitted axes bits radius slots pages left right placing e held why

-- ---- the key of an entry

-- what an error says to be damaged is the entry's key
abbrev pub TellsKey : {A : Type 0} → (axes bits : ℕ) → Entry → Result A TreeError → Type 0
TellsKey axes bits e (Ok _) = Unit {0}
TellsKey axes bits e (Err (tree.Damaged page r)) = HasNoKey axes bits e page r
TellsKey axes bits e (Err tree.Fault) = ⊥
TellsKey axes bits e (Err tree.Memory) = ⊥
