-- A node written anew, or split: the tree under it has grown.
use Rattle.std.proofs.Common.{◌≡◌, ℕ, suc, ◌+◌, ◌≤◌, List, [], ◌++◌, length, take, drop, sym, ap, ap₂, subst, ◌∙◌, arith}
use Rattle.std.specs.Prelude.{Option, Some, Result, Ok, Err}
use Rattle.std.proofs.lemmas.List.{take-append-drop, length-take-le, length-drop}
use Rattle.page_laws.specs.declared.errors.TreeError.{TreeError}
use Rattle.bptree_node.specs.declared.rows.Entry.{Entry}
use Rattle.bptree_node.specs.declared.rows.Branch.{Branch}
use Rattle.bptree_node.specs.Nodes.{Leaf, Inner, node_in}
use Rattle.bptree_node.specs.Summaries.{HasCorners, summary_of}
use Rattle.bptree_edit.specs.declared.part.Part.{Part}
use Rattle.bptree_insert.specs.declared.grown.Grown.{Grown}
use Rattle.bptree_insert.specs.declared.grown.Grown.TheVariants.{Same, Whole, Split}
use Rattle.bptree_node.specs.Trees.{HasFirst}
use Rattle.bptree_insert.specs.Rows.{IsPlaced}
use Rattle.bptree_edit.specs.NodesAt.{times, list_under, pages_under, list_under_all, pages_under_all, rows_in, AreChildren}
use Rattle.bptree_insert.specs.Steps.{IsLeafStored, IsLeafSplit, IsInnerStored, IsInnerSplit, StoresLeaf, StoresChanged, IsGrown, IsSameAbove, IsSplit, Grows}
use Rattle.bptree_edit.proofs.Summing.{AreJoined}
use Rattle.bptree_edit.proofs.Counts.{one_if, one_same, times-none, times-cons, times-append}
use Rattle.bptree_edit.proofs.Under.{AreKept, list-leaf, pages-leaf, list-inner, pages-inner, list_all-append, times_all-append, list_all-kept, times_all-kept, all-kept, children-front, children-back, nodes-of, of-leaf}
use Rattle.bptree_insert.proofs.Growing.{HaveGrown}
use Rattle.bptree_edit.proofs.Branches.{first-under, summary-under}
use Rattle.bptree_edit.proofs.Changing.{differs, one-none}
use Rattle.bptree_insert.proofs.Alike.{summary-alike, first-alike}

-- ---- an inner node

module _ {S : Type 0} (joined : S → S → S) (entry_box : Entry → Option S) (branch_box : ℕ → ℕ → Option S) (keys : S → ℕ × ℕ) (is_made : S → Type 0)
    (entry_made : (e : Entry) (s : S) → entry_box e ≡ Some s → is_made s) (back : (s : S) (low high : ℕ) → is_made s → keys s ≡ (low, high) → branch_box low high ≡ Some s)
    (laws : AreJoined joined is_made) (e : Entry) (start old new : ℕ → List ℕ) (start_free old_free new_free : List ℕ) (l n : ℕ) (were are : List Branch)
    (node : node_in (start n) ≡ Some (Inner were))
    (once : (m : ℕ) → times m start_free + times m (pages_under start (suc l) n) ≤ 1)
    (grown : HaveGrown (HasCorners joined entry_box keys) e start old start_free old_free l were are)
    (more : length were ≤ length are) where
  start_times : (m : ℕ) → times m (pages_under start (suc l) n) ≡ one_if n m + times m (pages_under_all start l were)
  start_times m = ap (times m) (pages-inner start l n were node) ∙ times-cons m n (pages_under_all start l were)

  -- the node's page is none of those under the branches
  not_under : times n (pages_under_all old l are) ≡ 0
  not_under = omega (arith, grown.changes.moved n, once n, start_times n, one_same n)

  pub inner-stored : IsInnerStored n are old new old_free new_free → IsGrown joined entry_box keys e start new start_free new_free (suc l) n
  inner-stored stored =
      let kept : AreKept old new (pages_under_all old l are) = λ m some. stored.written.others m (differs n m (pages_under_all old l are) not_under some) in
      let here = stored.written.here in
      let times_now : (m : ℕ) → times m (pages_under new (suc l) n) ≡ one_if n m + times m (pages_under_all old l are) =
      λ m. ap (times m) (pages-inner new l n are here) ∙ times-cons m n (pages_under_all new l are) ∙ ap (λ (k : ℕ). one_if n m + k) (times_all-kept m old new l are kept) in
      let placed = grown.changes.placed in
      record {
        grows = record {
          placed = record {
            before = placed.before;
            after = placed.after;
            were = list-inner start l n were node ∙ placed.were;
            are = list-inner new l n are here ∙ list_all-kept old new l are kept ∙ placed.are;
            lower = placed.lower;
            upper = placed.upper;
          };
          moved = λ m. omega (arith, grown.changes.moved m, start_times m, times_now m, ap (times m) stored.free);
          outside = λ m none. stored.written.others m (one-none n m (omega (arith, none, times_now m))) ∙ grown.changes.outside m (omega (arith, none, times_now m));
        };
        nodes = nodes-of (HasCorners joined entry_box keys) new l n are here (all-kept (HasCorners joined entry_box keys) old new l are kept grown.children);
        rows = omega (arith, ap rows_in node, ap rows_in here, more);
      }

  pub inner-split : (left right : Part S) → IsInnerSplit joined branch_box n are old new old_free new_free left right
      → IsSplit joined entry_box keys e start new start_free new_free (suc l) n left right
  inner-split left right split =
      let q = right.page in
      let low = take 7 are in
      let high = drop 7 are in
      let w = split.written in
      let whole : low ++ high ≡ are = take-append-drop 7 are in
      let q_free : (m : ℕ) → times m old_free ≡ one_if q m + times m new_free = λ m. w.was_free m ∙ times-cons m q new_free in
      let not_q : times q (pages_under_all old l are) ≡ 0 = omega (arith, grown.changes.moved q, once q, start_times q, q_free q, one_same q) in
      let kept : AreKept old new (pages_under_all old l are) =
      λ m some. w.others m (differs n m (pages_under_all old l are) not_under some) (differs q m (pages_under_all old l are) not_q some) in
      let now = all-kept (HasCorners joined entry_box keys) old new l are kept grown.children in
      let parts : AreChildren (HasCorners joined entry_box keys) new l (low ++ high) = subst (AreChildren (HasCorners joined entry_box keys) new l) (sym whole) now in
      let first = children-front (HasCorners joined entry_box keys) new l low high parts in
      let second = children-back (HasCorners joined entry_box keys) new l low high parts in
      let here : node_in (new left.page) ≡ Some (Inner low) = ap (λ (k : ℕ). node_in (new k)) split.first.place ∙ w.here in
      let there : node_in (new q) ≡ Some (Inner high) = w.there in
      let low_list = list-inner new l left.page low here in
      let high_list = list-inner new l q high there in
      let both : list_under new (suc l) left.page ++ list_under new (suc l) q ≡ list_under_all old l are =
      ap₂ (λ (xs ys : List Entry). xs ++ ys) low_list high_list ∙ sym (list_all-append new l low high) ∙ ap (list_under_all new l) whole ∙ list_all-kept old new l are kept in
      let times_now : (m : ℕ) → times m (pages_under new (suc l) left.page ++ pages_under new (suc l) q) ≡ one_if n m + one_if q m + times m (pages_under_all old l are) =
      λ m.
      let one : times m (pages_under new (suc l) left.page) ≡ one_if n m + times m (pages_under_all new l low) =
      ap (times m) (pages-inner new l left.page low here) ∙ times-cons m left.page (pages_under_all new l low) ∙ ap (λ (k : ℕ). one_if k m + times m (pages_under_all new l low)) split.first.place in
      let two : times m (pages_under new (suc l) q) ≡ one_if q m + times m (pages_under_all new l high) =
      ap (times m) (pages-inner new l q high there) ∙ times-cons m q (pages_under_all new l high) in
      let all : times m (pages_under_all new l low) + times m (pages_under_all new l high) ≡ times m (pages_under_all old l are) =
      sym (times_all-append m new l low high) ∙ ap (λ (bs : List Branch). times m (pages_under_all new l bs)) whole ∙ times_all-kept m old new l are kept in
      omega (arith, times-append m (pages_under new (suc l) left.page) (pages_under new (suc l) q), one, two, all) in
      let placed = grown.changes.placed in
      record {
        grows = record {
          placed = record {
            before = placed.before;
            after = placed.after;
            were = list-inner start l n were node ∙ placed.were;
            are = both ∙ placed.are;
            lower = placed.lower;
            upper = placed.upper;
          };
          moved = λ m. omega (arith, grown.changes.moved m, start_times m, times_now m, q_free m);
          outside = λ m none.
              w.others m (one-none n m (omega (arith, none, times_now m))) (one-none q m (omega (arith, none, times_now m))) ∙ grown.changes.outside m (omega (arith, none, times_now m));
        };
        first = record {
          nodes = nodes-of (HasCorners joined entry_box keys) new l left.page low here first;
          filled = omega (arith, ap rows_in here, length-take-le 7 are (omega (arith, split.enough)));
          first = subst (HasFirst left.key left.id) (sym low_list) (first-under joined entry_box branch_box keys is_made entry_made back laws new l left.key left.id low first split.first.first);
          is = ap (summary_of joined entry_box) low_list ∙ summary-under joined entry_box branch_box keys is_made entry_made back laws new l low left.summary first split.first.is;
        };
        second = record {
          nodes = nodes-of (HasCorners joined entry_box keys) new l q high there second;
          filled = omega (arith, ap rows_in there, length-drop 7 are, split.enough);
          first = subst (HasFirst right.key right.id) (sym high_list) (first-under joined entry_box branch_box keys is_made entry_made back laws new l right.key right.id high second split.second.first);
          is = ap (summary_of joined entry_box) high_list ∙ summary-under joined entry_box branch_box keys is_made entry_made back laws new l high right.summary second split.second.is;
        };
      }

  -- where the branches are the same, nothing is to be written
  inner-same : AreChildren (HasCorners joined entry_box keys) start l were → are ≡ were → new ≡ old → new_free ≡ old_free
      → IsSameAbove joined entry_box keys e start new start_free new_free (suc l) n
  inner-same before rows pages free =
      let here : node_in (new n) ≡ Some (Inner were) =
      ap (λ (p : ℕ → List ℕ). node_in (p n)) pages ∙ ap node_in (grown.changes.outside n not_under) ∙ node in
      let now : AreChildren (HasCorners joined entry_box keys) new l were =
      subst (λ (p : ℕ → List ℕ). AreChildren (HasCorners joined entry_box keys) p l were) (sym pages)
      (subst (AreChildren (HasCorners joined entry_box keys) old l) rows grown.children) in
      let then_list = list-inner start l n were node in
      let now_list = list-inner new l n were here in
      record {
        grown = inner-stored (record {
          written = record { here = here ∙ ap (λ (bs : List Branch). Some (Inner bs)) (sym rows); others = λ m other. ap (λ (p : ℕ → List ℕ). p m) pages };
          free = free;
        });
        first = λ key id first.
            subst (HasFirst key id) (sym now_list)
            (first-alike joined entry_box branch_box keys is_made entry_made back laws start new l key id were before now (subst (HasFirst key id) then_list first));
        summary = ap (summary_of joined entry_box) now_list
            ∙ summary-alike joined entry_box branch_box keys is_made entry_made back laws start new l were before now
            ∙ ap (summary_of joined entry_box) (sym then_list);
      }

  pub inner-grows : AreChildren (HasCorners joined entry_box keys) start l were → (now : Grown S) → StoresChanged joined branch_box n were are old new old_free new_free now
      → Grows joined entry_box keys e start new start_free new_free (suc l) n (Ok now)
  inner-grows before Same stores = inner-same before stores.0 stores.1 stores.2
  inner-grows before Whole stores = inner-stored stores
  inner-grows before (Split left right) stores = inner-split left right stores

-- ---- a leaf

module _ {S : Type 0} (joined : S → S → S) (entry_box : Entry → Option S) (keys : S → ℕ × ℕ) (e : Entry) (old new : ℕ → List ℕ) (old_free new_free : List ℕ) (n : ℕ)
    (were are : List Entry) (node : node_in (old n) ≡ Some (Leaf were)) (placed : IsPlaced e were are) (more : length were ≤ length are) where
  pub leaf-stored : IsLeafStored n are old new old_free new_free → IsGrown joined entry_box keys e old new old_free new_free 0 n
  leaf-stored stored =
      let here = stored.written.here in
      let times_now : (m : ℕ) → times m (pages_under new 0 n) ≡ one_if n m = λ m. ap (times m) (pages-leaf new n) ∙ times-cons m n [] ∙ omega (arith, times-none m) in
      let times_then : (m : ℕ) → times m (pages_under old 0 n) ≡ one_if n m = λ m. ap (times m) (pages-leaf old n) ∙ times-cons m n [] ∙ omega (arith, times-none m) in
      record {
        grows = record {
          placed = record {
            before = placed.before;
            after = placed.after;
            were = list-leaf old n were node ∙ placed.were;
            are = list-leaf new n are here ∙ placed.are;
            lower = placed.lower;
            upper = placed.upper;
          };
          moved = λ m. omega (arith, times_now m, times_then m, ap (times m) stored.free);
          outside = λ m none. stored.written.others m (one-none n m (omega (arith, none, times_now m)));
        };
        nodes = of-leaf (HasCorners joined entry_box keys) new n are here;
        rows = omega (arith, ap rows_in node, ap rows_in here, more);
      }

  pub leaf-split : (left right : Part S) → IsLeafSplit joined entry_box n are old new old_free new_free left right
      → IsSplit joined entry_box keys e old new old_free new_free 0 n left right
  leaf-split left right split =
      let q = right.page in
      let low = take 15 are in
      let high = drop 15 are in
      let w = split.written in
      let here : node_in (new left.page) ≡ Some (Leaf low) = ap (λ (k : ℕ). node_in (new k)) split.first.place ∙ w.here in
      let there : node_in (new q) ≡ Some (Leaf high) = w.there in
      let low_list = list-leaf new left.page low here in
      let high_list = list-leaf new q high there in
      let times_then : (m : ℕ) → times m (pages_under old 0 n) ≡ one_if n m = λ m. ap (times m) (pages-leaf old n) ∙ times-cons m n [] ∙ omega (arith, times-none m) in
      let times_now : (m : ℕ) → times m (pages_under new 0 left.page ++ pages_under new 0 q) ≡ one_if n m + one_if q m =
      λ m.
      let one : times m (pages_under new 0 left.page) ≡ one_if n m =
      ap (times m) (pages-leaf new left.page) ∙ times-cons m left.page [] ∙ ap (λ (k : ℕ). one_if k m + times m []) split.first.place ∙ omega (arith, times-none m) in
      let two : times m (pages_under new 0 q) ≡ one_if q m = ap (times m) (pages-leaf new q) ∙ times-cons m q [] ∙ omega (arith, times-none m) in
      omega (arith, times-append m (pages_under new 0 left.page) (pages_under new 0 q), one, two) in
      record {
        grows = record {
          placed = record {
            before = placed.before;
            after = placed.after;
            were = list-leaf old n were node ∙ placed.were;
            are = ap₂ (λ (xs ys : List Entry). xs ++ ys) low_list high_list ∙ take-append-drop 15 are ∙ placed.are;
            lower = placed.lower;
            upper = placed.upper;
          };
          moved = λ m. omega (arith, times_now m, times_then m, w.was_free m, times-cons m q new_free);
          outside = λ m none. w.others m (one-none n m (omega (arith, none, times_now m))) (one-none q m (omega (arith, none, times_now m)));
        };
        first = record {
          nodes = of-leaf (HasCorners joined entry_box keys) new left.page low here;
          filled = omega (arith, ap rows_in here, length-take-le 15 are (omega (arith, split.enough)));
          first = subst (HasFirst left.key left.id) (sym low_list) split.first.first;
          is = ap (summary_of joined entry_box) low_list ∙ split.first.is;
        };
        second = record {
          nodes = of-leaf (HasCorners joined entry_box keys) new q high there;
          filled = omega (arith, ap rows_in there, length-drop 15 are, split.enough);
          first = subst (HasFirst right.key right.id) (sym high_list) split.second.first;
          is = ap (summary_of joined entry_box) high_list ∙ split.second.is;
        };
      }

  pub leaf-grows : (result : Result (Grown S) TreeError) → StoresLeaf joined entry_box n are old new old_free new_free result
      → Grows joined entry_box keys e old new old_free new_free 0 n result
  leaf-grows (Ok Same) stores = absurd stores
  leaf-grows (Ok Whole) stores = leaf-stored stores
  leaf-grows (Ok (Split left right)) stores = leaf-split left right stores
  leaf-grows (Err why) stores = tt
