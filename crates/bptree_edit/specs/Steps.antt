-- What edits do to the pages, and which rules they test.
use Rattle.std.specs.Prelude.{◌≡◌, ℕ, ◌+◌, ◌≤◌, Bool, List, length, Some, Result, Ok, Err}
use Rattle.page_laws.specs.declared.errors.TreeError.{TreeError}
use Rattle.page_laws.specs.declared.errors.TreeError.TheVariants as tree
use Rattle.page_laws.specs.declared.rule.Rule.{Rule}
use Rattle.page_laws.specs.declared.rule.Rule.TheVariants as rule
use Rattle.page_laws.specs.Calls.{PagesChange}
use Rattle.bptree_node.specs.Nodes.{Node, node_in}
use Rattle.bptree_edit.specs.NodesAt.{times}

-- of pages that a change puts and takes, what goes on whatever a call answers: at most so many were taken and put, and
-- none was given back
pub record PagesGrow {P : Type 0} (is_known : P → Bool) (has in_pool : P → ℕ → Bool) (free : P → List ℕ) (is_open : P → Bool) (put_pages : P → List ℕ)
    (calm : P → P → Type 0) (takes puts : ℕ) (old new : P) : Type 0 where
  pub change : PagesChange is_known has in_pool is_open calm old new
  pub taken : length (free old) ≤ length (free new) + takes
  pub fewer : (n : ℕ) → times n (free new) ≤ times n (free old)
  pub put : length (put_pages new) ≤ length (put_pages old) + puts

-- the page is the node, and the others are as they were
pub record IsWritten (n : ℕ) (node : Node) (old new : ℕ → List ℕ) : Type 0 where
  pub here : node_in (new n) ≡ Some node
  pub others : (m : ℕ) → (m ≡ n → ⊥) → new m ≡ old m

-- the rules that an edit under a node tests
abbrev pub IsTested : Rule → Type 0
IsTested rule.Size = ⊥
IsTested rule.Journal = ⊥
IsTested rule.Profile = ⊥
IsTested rule.Pivot = ⊥
IsTested rule.Page = Unit {0}
IsTested rule.Node = Unit {0}
IsTested rule.Fill = ⊥
IsTested rule.Order = ⊥
IsTested rule.Key = Unit {0}
IsTested rule.Box = Unit {0}
IsTested rule.Slot = ⊥
IsTested rule.Match = ⊥

abbrev pub NamesTested : {A : Type 0} → Result A TreeError → Type 0
NamesTested (Ok _) = Unit {0}
NamesTested (Err (tree.Damaged page rule)) = IsTested rule
NamesTested (Err tree.Fault) = Unit {0}
NamesTested (Err tree.Memory) = Unit {0}
