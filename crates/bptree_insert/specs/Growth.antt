-- The free pages that an insertion takes, and the rules that it tests.
use Rattle.std.specs.Prelude.{◌≡◌, ℕ, ◌+◌, ◌≤◌, IsTrue, List, length, Result, Ok, Err}
use Rattle.page_laws.specs.declared.errors.TreeError.{TreeError}
use Rattle.page_laws.specs.declared.errors.TreeError.TheVariants as tree
use Rattle.page_laws.specs.declared.root.Root.{Root}
use Rattle.page_laws.specs.declared.rule.Rule.{Rule}
use Rattle.page_laws.specs.declared.rule.Rule.TheVariants as rule
use Rattle.page_laws.specs.Pages.{is_among}
use Rattle.bptree_node.specs.declared.layout.TheConstants.{HEIGHT_LIMIT}

-- at most so many free pages were taken, and none was given back
pub record TakesAtMost (most : ℕ) (old new : List ℕ) : Type 0 where
  pub count : length old ≤ length new + most
  pub none_back : (n : ℕ) → IsTrue (is_among n new) → IsTrue (is_among n old)

-- the rules that an insertion tests, the last one only for a root at the greatest height
abbrev pub IsInsertRule : Root → ℕ → Rule → Type 0
IsInsertRule root page rule.Size = ⊥
IsInsertRule root page rule.Journal = ⊥
IsInsertRule root page rule.Profile = ⊥
IsInsertRule root page rule.Pivot = ⊥
IsInsertRule root page rule.Page = Unit {0}
IsInsertRule root page rule.Node = Unit {0}
IsInsertRule root page rule.Fill = ⊥
IsInsertRule root page rule.Order = ⊥
IsInsertRule root page rule.Key = Unit {0}
IsInsertRule root page rule.Box = Unit {0}
IsInsertRule root page rule.Slot = ⊥
IsInsertRule root page rule.Match = (page ≡ root.page) × (root.height ≡ HEIGHT_LIMIT)

abbrev pub NamesInsertRule : {A : Type 0} → Root → Result A TreeError → Type 0
NamesInsertRule root (Ok _) = Unit {0}
NamesInsertRule root (Err (tree.Damaged page rule)) = IsInsertRule root page rule
NamesInsertRule root (Err tree.Fault) = Unit {0}
NamesInsertRule root (Err tree.Memory) = Unit {0}
