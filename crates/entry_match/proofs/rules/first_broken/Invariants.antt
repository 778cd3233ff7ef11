use Rattle.std.proofs.Common.{◌≡◌, ℕ, ◌<◌, get_or}
use Rattle.std.specs.Prelude.{None}
use Rattle.bptree_node.specs.declared.rows.Entry.{Entry}
use Rattle.entry_match.specs.Matching.{is_match, tested_box}
use Rattle.entry_match.proofs.rules.first_broken.Given as goal

-- the entries so far have boxes
abbrev pub invariant-loop-i : goal.invariant-loop-i
invariant-loop-i g l =
    (j : ℕ) (d : Entry) → j < l.i
    → tested_box (g.F.Boxes.entry_box l.boxes.boxes.now) (is_match l.boxes.notes.now l.boxes.collection l.boxes.by_key) (get_or l.entries j d) ≡ None → ⊥
