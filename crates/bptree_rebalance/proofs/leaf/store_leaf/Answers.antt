use Rattle.std.proofs.Common.{ℕ, ◌+◌, [], ◌∷◌, ap, subst, ◌∙◌}
use Rattle.std.specs.List.{replace_range}
use Rattle.bptree_node.specs.declared.rows.Branch.{Branch}
use Rattle.bptree_node.specs.Nodes.{Leaf}
use Rattle.bptree_edit.specs.Parts.{IsLeafPart}
use Rattle.bptree_edit.specs.Steps.{IsWritten}
use Rattle.bptree_edit.proofs.Lists.{item_written}
use Rattle.bptree_edit.proofs.Summing.{summary-some}
use Rattle.bptree_rebalance.proofs.Children.{child-is}
use Rattle.bptree_rebalance.proofs.leaf.store_leaf.Goals as goal

pub returns-in_default-clause-sound : goal.returns-in_default-clause-sound
returns-in_default-clause-sound g c = λ all.
    absurd (summary-some g.S.Summary.joined (g.F.Boxes.entry_box c.args.boxes.now) c.args.entries.now c.requires.some all c.in_default.ensures.part)

pub returns-clause-stores : goal.returns-clause-stores
returns-clause-stores g c =
    let P = g.P.Pages in
    let box = g.F.Boxes.entry_box c.args.boxes.now in
    let bs = c.args.branches.now.items in
    let at = c.args.at in
    let es = c.args.entries.now in
    let child = child-is c.deref.result.now bs at _ c.deref.ensures.0 c.requires.place in
    record {
      part = c.in-Some.part;
      is = subst (λ (k : ℕ). IsLeafPart g.S.Summary.joined box k es c.in-Some.part) child c.in-Some.ensures.part;
      written = subst (λ (k : ℕ). IsWritten k (Leaf es) (P.page_at c.args.pages.now) (P.page_at c.put_leaf.new.pages)) child c.put_leaf.ensures.written;
      free = c.put_leaf.ensures.free;
      branches = item_written bs c.deref_mut.result.now at c.branch_of.result c.deref_mut.ensures.value c.requires.place
          ∙ ap (λ (b : Branch). replace_range bs at (at + 1) (b ∷ [])) c.branch_of.ensures;
    }
