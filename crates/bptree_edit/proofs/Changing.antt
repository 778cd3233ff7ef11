-- Branches that stand for others, among the branches of a node.
use Rattle.std.proofs.Common.{◌≡◌, ℕ, ◌+◌, ◌<◌, ◌≤◌, List, ◌++◌, sym, ap, ap₂, subst, ◌∙◌, arith}
use Rattle.bptree_node.specs.declared.rows.Entry.{Entry}
use Rattle.bptree_node.specs.declared.rows.Branch.{Branch}
use Rattle.bptree_edit.specs.Changes.{HaveChanged}
use Rattle.bptree_edit.specs.NodesAt.{times, list_under_all, pages_under_all, AreChildren}
use Rattle.bptree_edit.proofs.Counts.{one_if, one_same}
use Rattle.bptree_edit.proofs.Under.{AreKept, list_all-append, times_all-append, list_all-kept, times_all-kept, all-kept, children-append}

-- where a number is another one than all of some pages, none of these is it
pub differs : (n m : ℕ) (xs : List ℕ) → times n xs ≡ 0 → 0 < times m xs → m ≡ n → ⊥
differs n m xs none some is = omega (arith, some, subst (λ k. times k xs ≡ 0) (sym is) none)

pub one-none : (n m : ℕ) → one_if n m ≡ 0 → m ≡ n → ⊥
one-none n m none is = omega (arith, none, subst (λ k. one_if n k ≡ 1) (sym is) (one_same n))

module _ (are_changed : List Entry → List Entry → Type 0) (are_corners : List Entry → ℕ → ℕ → Type 0) (old new : ℕ → List ℕ) (old_free new_free : List ℕ) (l : ℕ)
    (front were back are : List Branch) (changed : HaveChanged are_changed are_corners old new old_free new_free l were are)
    (once : (m : ℕ) → times m old_free + times m (pages_under_all old l (front ++ (were ++ back))) ≤ 1) where
  all_times : (m : ℕ) → times m (pages_under_all old l (front ++ (were ++ back)))
      ≡ times m (pages_under_all old l front) + (times m (pages_under_all old l were) + times m (pages_under_all old l back))
  all_times m =
      times_all-append m old l front (were ++ back)
      ∙ ap (λ (k : ℕ). times m (pages_under_all old l front) + k) (times_all-append m old l were back)

  front_kept : AreKept old new (pages_under_all old l front)
  front_kept m some = changed.changes.outside m (omega (arith, changed.changes.moved m, once m, all_times m, some))

  back_kept : AreKept old new (pages_under_all old l back)
  back_kept m some = changed.changes.outside m (omega (arith, changed.changes.moved m, once m, all_times m, some))

  new_times : (m : ℕ) → times m (pages_under_all new l (front ++ (are ++ back)))
      ≡ times m (pages_under_all old l front) + (times m (pages_under_all new l are) + times m (pages_under_all old l back))
  new_times m =
      times_all-append m new l front (are ++ back)
      ∙ ap₂ (λ (x y : ℕ). x + y) (times_all-kept m old new l front front_kept)
      (times_all-append m new l are back ∙ ap (λ (k : ℕ). times m (pages_under_all new l are) + k) (times_all-kept m old new l back back_kept))

  old_list : list_under_all old l (front ++ (were ++ back)) ≡ list_under_all old l front ++ (list_under_all old l were ++ list_under_all old l back)
  old_list = list_all-append old l front (were ++ back) ∙ ap (λ (xs : List Entry). list_under_all old l front ++ xs) (list_all-append old l were back)

  new_list : list_under_all new l (front ++ (are ++ back)) ≡ list_under_all old l front ++ (list_under_all new l are ++ list_under_all old l back)
  new_list =
      list_all-append new l front (are ++ back)
      ∙ ap₂ (λ (xs ys : List Entry). xs ++ ys) (list_all-kept old new l front front_kept)
      (list_all-append new l are back ∙ ap (λ (xs : List Entry). list_under_all new l are ++ xs) (list_all-kept old new l back back_kept))

  -- the others stay as they are
  pub changed-among : AreChildren are_corners old l front → AreChildren are_corners old l back
      → are_changed (list_under_all old l front ++ (list_under_all old l were ++ list_under_all old l back)) (list_under_all old l front ++ (list_under_all new l are ++ list_under_all old l back))
      → HaveChanged are_changed are_corners old new old_free new_free l (front ++ (were ++ back)) (front ++ (are ++ back))
  changed-among here there all = record {
    changes = record {
      placed = subst (λ (xs : List Entry). are_changed xs (list_under_all new l (front ++ (are ++ back)))) (sym old_list)
          (subst (are_changed (list_under_all old l front ++ (list_under_all old l were ++ list_under_all old l back))) (sym new_list) all);
      moved = λ m. omega (arith, changed.changes.moved m, all_times m, new_times m);
      outside = λ m none. changed.changes.outside m (omega (arith, none, new_times m));
    };
    children = children-append are_corners new l front (are ++ back) (all-kept are_corners old new l front front_kept here)
        (children-append are_corners new l are back changed.children (all-kept are_corners old new l back back_kept there));
  }
