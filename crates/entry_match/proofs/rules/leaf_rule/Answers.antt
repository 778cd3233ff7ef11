use Rattle.std.proofs.Common.{◌≡◌, List, sym, ap, subst, ◌∙◌}
use Rattle.std.specs.Prelude.{Contains}
use Rattle.bptree_node.specs.declared.rows.Entry.{Entry}
use Rattle.bptree_node.specs.Nodes.{node_in}
use Rattle.bptree_node.specs.Trees.{node_entries}
use Rattle.entry_match.specs.Mismatches.{HasBroken}
use Rattle.entry_match.proofs.rules.leaf_rule.Goals as goal

pub returns-clause-rule : goal.returns-clause-rule
returns-clause-rule g c = λ known live entry among none.
    let P = g.P.Pages in
    let boxes = c.args.boxes.now in
    let at : c.get.new.into ≡ P.page_at c.args.pages.now c.args.n = c.in_ok-get.ensures.data known in
    let node : node_entries (node_in (P.page_at c.args.pages.now c.args.n)) ≡ c.deref.result.now =
    ap (λ (p : List _). node_entries (node_in p)) (sym at) ∙ ap node_entries c.in_ok-entries.ensures.leaf ∙ sym c.deref.ensures.0 in
    subst (λ (es : List Entry). HasBroken (g.F.Boxes.entry_box boxes.boxes.now) boxes.notes.now boxes.collection boxes.by_key es c.first_broken.result) (sym node)
    (c.first_broken.ensures entry (subst (λ (es : List Entry). Contains es entry) node among) none)
