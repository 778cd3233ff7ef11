use Rattle.std.proofs.Common.{◌≡◌, ◌<◌, sym, subst, arith}
use Rattle.std.specs.Prelude.{None}
use Rattle.bptree_node.specs.declared.rows.Entry.{Entry}
use Rattle.entry_match.specs.Matching.{is_match, tested_box}
use Rattle.entry_match.proofs.rules.first_broken.Goals as goal

pub returns : goal.returns
returns g t = λ entry among none.
    let place : among.0 < t.loop-i.i = omega (arith, among.1, t.loop-i-test.false) in
    absurd (t.loop-i.invariant among.0 entry place
    (subst (λ (e : Entry). tested_box (g.F.Boxes.entry_box t.args.boxes.now.boxes.now) (is_match t.args.boxes.now.notes.now t.args.boxes.now.collection t.args.boxes.now.by_key) e ≡ None)
    (sym among.2) none))
