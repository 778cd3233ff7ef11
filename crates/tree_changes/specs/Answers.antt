-- What calls on a store with trees answer.
use Rattle.std.specs.Prelude.{◌≡◌, ℕ, ◌<◌, List, Option, Some, None, Result, Ok, Err, ◌⊎◌}
use Rattle.metrics_builtin.specs.declared.Space.{Space}
use Rattle.metrics_builtin.specs.Space.{IsValid}
use Rattle.page_laws.specs.declared.errors.TreeError.{TreeError}
use Rattle.page_laws.specs.declared.errors.TreeError.TheVariants as tree
use Rattle.page_laws.specs.declared.rule.Rule.TheVariants as rule
use Rattle.object_file.specs.Slots.{Holds}
use Rattle.object_file.specs.ObjectFile.{slot_at, slot_page}
use Rattle.spb_defs.specs.State.{State, object_at}
use Rattle.bptree_walk.specs.Damage.{IsWalkRule}

-- the slot holds the object under the key, or there is none
abbrev pub GivesObject : State → (ℕ → List ℕ) → ℕ → ℕ → List ℕ → Option ℕ → Type 0
GivesObject s home c id object None = object_at s c id ≡ None
GivesObject s home c id object (Some slot) = (slot < s.cap) × (slot_at home slot ≡ Holds c id object) × (object_at s c id ≡ Some object)

-- what is given is admitted
abbrev pub GivesAdmitted : (List ℕ → Type 0) → List ℕ → Option ℕ → Type 0
GivesAdmitted admitted object None = Unit {0}
GivesAdmitted admitted object (Some slot) = admitted object

-- the page is that of a slot
abbrev pub IsSlotPage : ℕ → Type 0
IsSlotPage page = (slot : ℕ) × (page ≡ slot_page slot)

-- the objects of the space are admitted
abbrev pub Admits : (List ℕ → Type 0) → Space → Type 0
Admits admitted space = (object : List ℕ) → IsValid space object → admitted object

-- what is damaged is named by a rule of walks, or by the rule of slots and page 1 or the page of a slot
abbrev pub NamesObjectRule : {A : Type 0} → Result A TreeError → Type 0
NamesObjectRule (Ok _) = Unit {0}
NamesObjectRule (Err (tree.Damaged page r)) = IsWalkRule r ⊎ ((r ≡ rule.Slot) × ((page ≡ 1) ⊎ IsSlotPage page))
NamesObjectRule (Err tree.Fault) = Unit {0}
NamesObjectRule (Err tree.Memory) = Unit {0}
