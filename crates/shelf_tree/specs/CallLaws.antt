-- What happens in a search adds up.
use Rattle.std.proofs.Common.{ℕ, ◌+◌, Err, refl, ap, ◌∙◌, arith}
use Rattle.page_laws.specs.Pages.{count_after, count_after-add}
use Rattle.page_laws.specs.declared.errors.TreeError.{TreeError}
use Rattle.page_laws.specs.declared.pages.Pages as pages
use Rattle.bptree_walk.proofs.Staying.{stays_same, stays_on, faults_on}
use Rattle.shelf_tree.specs.declared.tree.CurveTree.{CurveTree}
use Rattle.shelf_tree.specs.TreeCalls.{TreeStays, Follows, Fails}

module _ {P C : Type 0} {G : pages.Ghosts P} (same : (p : P) → G.calm p p) (chains : (a b c : P) → G.calm a b → G.calm b c → G.calm a c) where
  pub follows_itself : (t : CurveTree P C) → Follows G 0 t t
  follows_itself t = record { stays = record { stay = stays_same G same t.pages.now; name = refl }; fetches = refl; faults = omega arith }

  both_stay : (old mid new : CurveTree P C) → TreeStays G old mid → TreeStays G mid new → TreeStays G old new
  both_stay old mid new first second = record {
    stay = stays_on G old.pages.now mid.pages.now first.stay chains new.pages.now second.stay;
    name = second.name ∙ first.name;
  }

  pub follows_after : (m n : ℕ) (old mid new : CurveTree P C) → Follows G m old mid → Follows G n mid new → Follows G (m + n) old new
  follows_after m n old mid new first second = record {
    stays = both_stay old mid new first.stays second.stays;
    fetches = second.fetches ∙ ap (λ (start : ℕ). count_after start n) first.fetches ∙ count_after-add (G.fetches old.pages.now) m n;
    faults = omega (arith, first.faults, second.faults);
  }

  pub fails_after : (n : ℕ) (e : TreeError) (old mid new : CurveTree P C) → Follows G n old mid → Fails G e mid new → Fails G e old new
  fails_after n e old mid new first second = record {
    stays = both_stay old mid new first.stays second.stays;
    fault = faults_on (Unit {0}) (Err e) (G.faults old.pages.now) (G.faults mid.pages.now) (G.faults new.pages.now) first.faults second.fault;
    rule = second.rule;
  }
