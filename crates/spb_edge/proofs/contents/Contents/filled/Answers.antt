use Rattle.std.proofs.Common.{◌≡◌, ℕ, List, [], length, drop, sym, ◌∙◌, ap, subst}
use Rattle.std.proofs.Math.ListN.{drop_of_length-le}
use Rattle.spb_edge.specs.Contents.{Contents, AreTornOver, with_ranges_filled}
use Rattle.spb_edge.proofs.Ranges.{fills}
use Rattle.spb_edge.proofs.contents.Contents.filled.Goals as goal

pub returns-clause-leaves : goal.returns-clause-leaves
returns-clause-leaves c =
    let inside = c.self.inside in
    let now = c.args.self.now in
    let none : drop c.loop-range.range-index c.deref-range-items.result.now ≡ [] = drop_of_length-le c.deref-range-items.result.now c.loop-range-test.false in
    let done : c.from.result ≡ with_ranges_filled c.args.byte now.kept now.unsynced =
    c.from.ensures ∙ ap (with_ranges_filled c.args.byte c.loop-range.image.items) (sym none) ∙ c.loop-range.invariant.0 in
    subst (λ (b : List ℕ). AreTornOver now.kept now.unsynced b) (sym done)
    (subst (λ (v : Contents). AreTornOver v.kept v.unsynced (with_ranges_filled c.args.byte v.kept v.unsynced)) c.self.view_is
    (fills c.args.byte inside.kept.items inside.unsynced.items (length inside.image.items) c.self.invariant.3))
