-- What the errors of pages say.
use Rattle.std.specs.Prelude.{ℕ, ◌≤◌, Result, Ok, Err}
use Rattle.spb_edge.specs.Fault.{HasRisen}
use Rattle.page_laws.specs.declared.errors.PageError.{PageError}
use Rattle.page_laws.specs.declared.errors.PageError.TheVariants as page
use Rattle.page_laws.specs.declared.errors.TreeError.{TreeError}
use Rattle.page_laws.specs.declared.errors.TreeError.TheVariants as tree

-- the error of pages, as one of what they hold
abbrev pub tree_error : PageError → TreeError
tree_error page.Fault = tree.Fault
tree_error page.Memory = tree.Memory

-- a fault is counted, and the count never falls
abbrev pub CountsFault : {A : Type 0} → Result A PageError → ℕ → ℕ → Type 0
CountsFault (Ok _) before now = before ≤ now
CountsFault (Err page.Fault) before now = (before ≤ now) × HasRisen before now
CountsFault (Err page.Memory) before now = before ≤ now

-- the same if what the pages hold may be damaged
abbrev pub CountsTreeFault : {A : Type 0} → Result A TreeError → ℕ → ℕ → Type 0
CountsTreeFault (Ok _) before now = before ≤ now
CountsTreeFault (Err tree.Fault) before now = (before ≤ now) × HasRisen before now
CountsTreeFault (Err (tree.Damaged page rule)) before now = before ≤ now
CountsTreeFault (Err tree.Memory) before now = before ≤ now

-- an error says nothing to be damaged
abbrev pub TellsNoDamage : TreeError → Type 0
TellsNoDamage (tree.Damaged page rule) = ⊥
TellsNoDamage tree.Fault = Unit {0}
TellsNoDamage tree.Memory = Unit {0}

abbrev pub IsNotDamaged : {A : Type 0} → Result A TreeError → Type 0
IsNotDamaged (Ok _) = Unit {0}
IsNotDamaged (Err why) = TellsNoDamage why
