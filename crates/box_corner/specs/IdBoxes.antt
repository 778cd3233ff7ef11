-- The boxes of id trees.
use Rattle.std.specs.Prelude.{ℕ, ◌==◌, ◌&&◌, if◌then◌else◌, Option, Some, None}
use Rattle.std.proofs.Common.{refl, sym, ap}
use Rattle.bptree_node.specs.declared.rows.Entry.{Entry}
use Rattle.bptree_node.specs.declared.summary.NoBox.{NoBox}
use Rattle.bptree_node.specs.Summaries.{AreBoxes}

-- the one value of a summary that keeps nothing
abbrev pub nothing : NoBox
nothing = record {}

-- an entry of an id tree has its id as its key
abbrev pub entry_box : Entry → Option NoBox
entry_box e = if e.key == e.id then Some nothing else None

-- the corners of a branch are 0
abbrev pub branch_box : ℕ → ℕ → Option NoBox
branch_box low high = if (low == 0) && (high == 0) then Some nothing else None

pub box_laws : AreBoxes {S = NoBox} (λ _. 0) (λ a _. a) entry_box branch_box (λ _. (0, 0)) (λ _. Unit {0}) 0
box_laws = record {
  entry_made = λ e s is. tt;
  branch_made = λ low high s is. tt;
  joined_made = λ a b one other. tt;
  one_size = λ s made. refl;
  back = λ s low high made are. ap (λ (p : ℕ × ℕ). branch_box p.0 p.1) (sym are);
}
