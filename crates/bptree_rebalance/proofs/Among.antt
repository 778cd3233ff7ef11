-- Branches that stand for some pages and entries, among the other branches of a node.
use Rattle.std.proofs.Common.{◌≡◌, ℕ, ◌+◌, ◌≤◌, List, ◌∷◌, ◌++◌, length, sym, ap, ap₂, subst, ◌∙◌, arith}
use Rattle.bptree_node.specs.declared.rows.Entry.{Entry}
use Rattle.bptree_node.specs.declared.rows.Branch.{Branch}
use Rattle.bptree_node.specs.Nodes.{Node}
use Rattle.bptree_edit.specs.NodesAt.{times, list_under_all, pages_under_all, AreChildren}
use Rattle.bptree_edit.proofs.Counts.{one_if, times-cons, times-append}
use Rattle.bptree_edit.proofs.Under.{AreKept, list_all-append, list_all-kept, times_all-append, times_all-kept, all-kept, children-append}
use Rattle.bptree_rebalance.specs.Rows.{pages_in}
use Rattle.bptree_rebalance.specs.Settling.{list_among, pages_among, IsSettled}

pub among-times : (m : ℕ) (pages : ℕ → List ℕ) (l : ℕ) (front : List Branch) (page : ℕ) (node : Node) (back : List Branch) → times m (pages_among pages l front page node back)
    ≡ times m (pages_under_all pages l front) + (one_if page m + (times m (pages_in pages l node) + times m (pages_under_all pages l back)))
among-times m pages l front page node back =
    let rest = pages_in pages l node ++ pages_under_all pages l back in
    omega (arith, times-append m (pages_under_all pages l front) (page ∷ rest), times-cons m page rest, times-append m (pages_in pages l node) (pages_under_all pages l back))

module _ (are_corners : List Entry → ℕ → ℕ → Type 0) (old new : ℕ → List ℕ) (old_free new_free : List ℕ) (l : ℕ) (front mid back : List Branch) (group : List ℕ) (entries : List Entry)
    (once : (m : ℕ) → times m old_free + (times m (pages_under_all old l front) + (times m group + times m (pages_under_all old l back))) ≤ 1)
    (moved : (m : ℕ) → times m old_free + times m group ≡ times m new_free + times m (pages_under_all new l mid))
    (outside : (m : ℕ) → times m (pages_under_all new l mid) ≡ 0 → new m ≡ old m)
    (list : list_under_all new l mid ≡ entries) (children : AreChildren are_corners new l mid)
    (before : AreChildren are_corners old l front) (behind : AreChildren are_corners old l back) where
  front_kept : AreKept old new (pages_under_all old l front)
  front_kept m some = outside m (omega (arith, moved m, once m, some))

  back_kept : AreKept old new (pages_under_all old l back)
  back_kept m some = outside m (omega (arith, moved m, once m, some))

  new_times : (m : ℕ) → times m (pages_under_all new l (front ++ (mid ++ back)))
      ≡ times m (pages_under_all old l front) + (times m (pages_under_all new l mid) + times m (pages_under_all old l back))
  new_times m =
      times_all-append m new l front (mid ++ back)
      ∙ ap₂ (λ (x y : ℕ). x + y) (times_all-kept m old new l front front_kept)
      (times_all-append m new l mid back ∙ ap (λ (k : ℕ). times m (pages_under_all new l mid) + k) (times_all-kept m old new l back back_kept))

  new_list : list_under_all new l (front ++ (mid ++ back)) ≡ list_under_all old l front ++ (entries ++ list_under_all old l back)
  new_list =
      list_all-append new l front (mid ++ back)
      ∙ ap₂ (λ (xs ys : List Entry). xs ++ ys) (list_all-kept old new l front front_kept)
      (list_all-append new l mid back ∙ ap₂ (λ (xs ys : List Entry). xs ++ ys) list (list_all-kept old new l back back_kept))

  pub settled-among : (f b branches : List Branch) (page : ℕ) (node : Node)
      → ((m : ℕ) → times m (pages_among old l f page node b) ≡ times m (pages_under_all old l front) + (times m group + times m (pages_under_all old l back)))
      → list_among old l f node b ≡ list_under_all old l front ++ (entries ++ list_under_all old l back) → branches ≡ front ++ (mid ++ back)
      → length f + length b ≤ length (front ++ (mid ++ back)) → IsSettled are_corners old new old_free new_free l f page node b branches
  settled-among f b branches page node same_pages same_list are count =
      subst (λ (bs : List Branch). IsSettled are_corners old new old_free new_free l f page node b bs) (sym are)
      (record {
        changes = record {
          placed = new_list ∙ sym same_list;
          moved = λ m. omega (arith, moved m, same_pages m, new_times m);
          outside = λ m none. outside m (omega (arith, none, new_times m));
        };
        children = children-append are_corners new l front (mid ++ back) (all-kept are_corners old new l front front_kept before)
            (children-append are_corners new l mid back children (all-kept are_corners old new l back back_kept behind));
        count = count;
      })
