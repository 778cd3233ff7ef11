use Rattle.std.proofs.Common.{◌≤◌, ◌&&◌, ◌||◌, List, Ok, ap, subst, ◌∙◌, arith}
use Rattle.std.specs.Prelude.{nat_lt}
use Rattle.page_laws.specs.Pages.{is_among}
use Rattle.bptree_node.specs.declared.rows.Entry.{Entry}
use Rattle.tree_check.specs.PageSets.{has}
use Rattle.entry_match.specs.Mismatches.{MatchesTree}
use Rattle.image_trees.specs.Trees.{slots_of}
use Rattle.bptree_walk.proofs.Staying.{live_of, known_on, stays_on, as_before, stays_same}
use Rattle.image_trees.proofs.Ranges.{same-range, range-on}
use Rattle.image_trees.proofs.Gathering.{none-matched, one-matched}
use Rattle.image_trees.proofs.trees.check_trees.Goals as goal

pub loop-c-init : goal.loop-c-init
loop-c-init g c = record {
  trees = λ known. none-matched g.S.Summary.joined (g.F.Boxes.entry_box c.args.boxes.now) (g.F.Boxes.keys_of c.args.boxes.now) c.args.notes.now c.args.by_key
      (g.P.Pages.page_at c.args.pages.now) (live_of g.P.Pages c.args.pages.now) c.args.roots.now c.args.first c.args.cap c.args.used.now c.args.named.now;
  used = same-range c.args.used.now;
  named = same-range c.args.named.now;
  stay = stays_same g.P.Pages g.met.P.Pages.calm_same c.args.pages.now;
  later = omega arith;
}

pub loop-c-preserved : goal.loop-c-preserved
loop-c-preserved g c =
    let G = g.P.Pages in
    let so_far = c.loop-c.invariant in
    let joined = g.S.Summary.joined in
    let entry_box = g.F.Boxes.entry_box c.args.boxes.now in
    let keys = g.F.Boxes.keys_of c.args.boxes.now in
    let later : G.faults c.loop-c.pages ≤ G.faults c.check_matched.new.pages = c.in_ok-check_matched.ensures.fault in
    record {
      trees = λ known.
          one-matched joined entry_box keys c.args.notes.now c.args.by_key (G.page_at c.args.pages.now) (live_of G c.args.pages.now) c.args.roots.now c.args.first c.args.cap
          c.args.used.now c.args.named.now c.loop-c.c c.loop-c.used c.loop-c.named (so_far.trees known) c.root_of-root.result
          c.root_of-root.ensures.root
          c.check_matched.new.used c.mark.new.named c.check_matched.new.entries.items
          (subst (λ (old : List Entry). MatchesTree joined entry_box keys c.args.notes.now c.loop-c.c c.args.by_key (G.page_at c.args.pages.now) (live_of G c.args.pages.now) c.root_of-root.result
          c.loop-c.used c.check_matched.new.used old c.check_matched.new.entries.items (Ok tt)) c.clear.ensures.items
          (as_before G c.args.pages.now c.loop-c.pages so_far.stay
          (λ pages live. MatchesTree joined entry_box keys c.args.notes.now c.loop-c.c c.args.by_key pages live c.root_of-root.result c.loop-c.used c.check_matched.new.used c.clear.new.self.items
          c.check_matched.new.entries.items (Ok tt)) known
          (c.in_ok-check_matched.ensures.checks (known_on G c.args.pages.now c.loop-c.pages so_far.stay known))))
          (λ m. c.mark.ensures.named m
          ∙ ap (λ (es : List Entry). has c.loop-c.named m || (nat_lt m c.args.cap && is_among m (slots_of es))) c.deref.ensures.value);
      used = range-on c.args.used.now c.loop-c.used c.check_matched.new.used so_far.used c.check_matched.ensures.range;
      named = range-on c.args.named.now c.loop-c.named c.mark.new.named so_far.named c.mark.ensures.range;
      stay = stays_on G c.args.pages.now c.loop-c.pages so_far.stay g.met.P.Pages.calm_chains c.check_matched.new.pages c.check_matched.ensures.stay;
      later = omega (arith, so_far.later, later);
    }
