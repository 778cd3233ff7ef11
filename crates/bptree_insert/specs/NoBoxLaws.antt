-- Boxes of which nothing is kept, for tests.
use Rattle.std.specs.Prelude.{ℕ, Some}
use Rattle.std.proofs.Common.{refl}
use Rattle.bptree_node.specs.declared.rows.Entry.{Entry}
use Rattle.bptree_node.specs.declared.summary.NoBox.{NoBox}
use Rattle.bptree_node.specs.Summaries.{AreBoxes}

abbrev pub kept_box : NoBox
kept_box = record {}

pub no_box_laws : AreBoxes (λ (_ : NoBox). 0) (λ a _. a) (λ (_ : Entry). Some kept_box) (λ (_ _ : ℕ). Some kept_box) (λ _. (0, 0)) (λ _. Unit {0}) 0
no_box_laws = record {
  entry_made = λ e s is. tt;
  branch_made = λ low high s is. tt;
  joined_made = λ a b one two. tt;
  one_size = λ s made. refl;
  back = λ s low high made is. refl;
}
