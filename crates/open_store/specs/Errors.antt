-- The errors of a store, and what they count.
use Rattle.std.specs.Prelude.{◌≡◌, ℕ, ◌≤◌, Result, Ok, Err}
use Rattle.spb_edge.specs.Fault.{HasRisen}
use Rattle.page_laws.specs.declared.errors.PageError.{PageError}
use Rattle.page_laws.specs.declared.errors.PageError.TheVariants as page
use Rattle.page_laws.specs.declared.errors.TreeError.{TreeError}
use Rattle.page_laws.specs.declared.errors.TreeError.TheVariants as tree
use Rattle.page_laws.specs.declared.rule.Rule.TheVariants as rule
use Rattle.open_store.specs.declared.errors.First.{First}
use Rattle.open_store.specs.declared.errors.First.TheVariants as first
use Rattle.open_store.specs.declared.errors.ChangeError.{ChangeError}
use Rattle.open_store.specs.declared.errors.ChangeError.TheVariants as change

-- the error of pages, as that which ends a store
abbrev pub page_first : PageError → First
page_first page.Fault = first.DiskFault
page_first page.Memory = first.Memory

-- the same if what the pages hold may be damaged
abbrev pub tree_first : TreeError → First
tree_first tree.Fault = first.DiskFault
tree_first (tree.Damaged n r) = first.Damaged n r
tree_first tree.Memory = first.Memory

-- the answer of the call that ends a store
abbrev pub change_error : First → ChangeError
change_error first.DiskFault = change.DiskFault
change_error (first.Damaged n r) = change.Damaged n r
change_error first.Memory = change.Memory

-- a fault is counted, and the count never falls
abbrev pub CountsFirst : {A : Type 0} → Result A First → ℕ → ℕ → Type 0
CountsFirst (Ok _) before now = before ≤ now
CountsFirst (Err first.DiskFault) before now = (before ≤ now) × HasRisen before now
CountsFirst (Err (first.Damaged n r)) before now = before ≤ now
CountsFirst (Err first.Memory) before now = before ≤ now

-- the same of a call on a store
abbrev pub CountsChangeFault : Result Unit ChangeError → ℕ → ℕ → Type 0
CountsChangeFault (Ok _) before now = before ≤ now
CountsChangeFault (Err change.Exists) before now = before ≤ now
CountsChangeFault (Err change.Absent) before now = before ≤ now
CountsChangeFault (Err change.Full) before now = before ≤ now
CountsChangeFault (Err change.DiskFault) before now = (before ≤ now) × HasRisen before now
CountsChangeFault (Err (change.Damaged n r)) before now = before ≤ now
CountsChangeFault (Err change.Memory) before now = before ≤ now
CountsChangeFault (Err (change.Spent first)) before now = before ≤ now

-- what isn't damaged
abbrev pub IsUndamaged : {A : Type 0} → Result A First → Type 0
IsUndamaged (Ok _) = Unit {0}
IsUndamaged (Err first.DiskFault) = Unit {0}
IsUndamaged (Err (first.Damaged n r)) = ⊥
IsUndamaged (Err first.Memory) = Unit {0}

-- what is damaged is named by this page and the rule of slots, and only for this reason
abbrev pub BlamesSlot : {A : Type 0} → ℕ → Type 0 → Result A First → Type 0
BlamesSlot page reason (Ok _) = Unit {0}
BlamesSlot page reason (Err first.DiskFault) = Unit {0}
BlamesSlot page reason (Err (first.Damaged n r)) = (n ≡ page) × (r ≡ rule.Slot) × reason
BlamesSlot page reason (Err first.Memory) = Unit {0}
