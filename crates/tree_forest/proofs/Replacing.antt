-- One tree of several is replaced, or pages that are of none.
use Rattle.std.proofs.Common.{◌≡◌, inl, inr, ℕ, zero, suc, ◌+◌, ◌≤◌, ◌<◌, Bool, true, false, not, ◌&&◌, List, [], length, get_or, refl, sym, ap, subst, ◌∙◌, arith}
use Rattle.std.specs.Prelude.{IsTrue, if◌then◌else◌, slice_set}
use Rattle.std.specs.List.{AllByRecursion}
use Rattle.std.proofs.lemmas.Bool.{cases_eq}
use Rattle.page_laws.specs.declared.root.Root.{Root}
use Rattle.page_laws.specs.Pages.{is_among, is_live}
use Rattle.bptree_node.specs.declared.rows.Entry.{Entry}
use Rattle.bptree_node.specs.Lists.{all-each, all-weaker}
use Rattle.bptree_node.specs.Trees.{IsTree, list_of, pages_of, list_at, pages_at}
use Rattle.bptree_node.specs.TreeLaws.{AreSame, root-stays, is_tree-stays}
use Rattle.bptree_edit.specs.NodesAt.{times}
use Rattle.bptree_edit.proofs.Counts.{times-all, times-not_among, both_true, live_pool}
use Rattle.store_check.specs.Profile.{no_root}
use Rattle.tree_state.specs.StoreTrees.{tree_pages}
use Rattle.tree_forest.specs.Forests.{root_at, FillPool, IsForest, ReplacesTree}
use Rattle.tree_forest.proofs.Parts.{one_part, two_parts, same_parts, set_part, set_here, set_other, set_length}

one_most : (b : Bool) → (if b then 1 else 0) ≤ 1
one_most true = omega arith
one_most false = omega arith

one_is : (b : Bool) → 0 < (if b then 1 else 0) → b ≡ true
one_is true some = refl
one_is false some = absurd (omega (arith, some))

-- a tree by other live pages
relive : (are_corners : List Entry → ℕ → ℕ → Type 0) (home : ℕ → List ℕ) (was is : ℕ → Bool) (root : Root) → AllByRecursion (λ n. IsTrue (is n)) (pages_at home root)
    → IsTree are_corners home was root → IsTree are_corners home is root
relive are_corners home was is root live tree =
    is_tree-stays home home are_corners was is root (all-each (λ n. home n ≡ home n) (λ n. refl) (pages_at home root)) live tree

module _ (are_corners : ℕ → List Entry → ℕ → ℕ → Type 0) (old : ℕ → List ℕ) (in_pool : ℕ → Bool) (old_free : List ℕ) (roots : List Root)
    (forest : IsForest are_corners old in_pool old_free roots) where
  most : (n : ℕ) → times n old_free + times n (tree_pages old roots) ≤ 1
  most n = omega (arith, forest.pages n, one_most (in_pool n))

  -- a page of a tree is of the pool
  pooled : (k n : ℕ) → k < length roots → 0 < times n (pages_at old (root_at roots k)) → IsTrue (in_pool n)
  pooled k n below some = one_is (in_pool n) (omega (arith, some, one_part (pages_at old) n roots k below, forest.pages n))

  -- the trees have no free page
  pub live-tree : (k : ℕ) → k < length roots → IsTree (are_corners k) old (is_live in_pool old_free) (root_at roots k)
  live-tree k below =
      let root = root_at roots k in
      relive (are_corners k) old in_pool (is_live in_pool old_free) root
      (times-all (λ n. IsTrue (is_live in_pool old_free n)) (pages_at old root) (λ n some.
      both_true (in_pool n) (not (is_among n old_free)) (pooled k n below some)
      (times-not_among n old_free (omega (arith, some, one_part (pages_at old) n roots k below, most n)))))
      (forest.trees k below)

  -- ---- pages of no tree are replaced

  module _ (new : ℕ → List ℕ) (same : (n : ℕ) → IsTrue (in_pool n) → new n ≡ old n) where
    pool_same : (k : ℕ) → k < length roots → AreSame old new (pages_at old (root_at roots k))
    pool_same k below = times-all (λ n. old n ≡ new n) (pages_at old (root_at roots k)) (λ n some. sym (same n (pooled k n below some)))

    pub kept-list : (k : ℕ) → k < length roots → list_at new (root_at roots k) ≡ list_at old (root_at roots k)
    kept-list k below = root-stays old new [] list_of (root_at roots k).height (root_at roots k).page (pool_same k below)

    kept-pages : (k : ℕ) → k < length roots → pages_at new (root_at roots k) ≡ pages_at old (root_at roots k)
    kept-pages k below = root-stays old new [] pages_of (root_at roots k).height (root_at roots k).page (pool_same k below)

    pub kept-forest : IsForest are_corners new in_pool old_free roots
    kept-forest = record {
      trees = λ k below. is_tree-stays old new (are_corners k) in_pool in_pool (root_at roots k) (pool_same k below) (forest.trees k below).tree.live (forest.trees k below);
      pages = λ n.
          ap (λ used. times n old_free + times n used) (same_parts (pages_at old) (pages_at new) roots kept-pages) ∙ forest.pages n;
    }

  -- ---- a tree is replaced

  module _ (new : ℕ → List ℕ) (new_free : List ℕ) (k : ℕ) (above : Root) (below : k < length roots)
      (replaces : ReplacesTree (are_corners k) (is_live in_pool new_free) old new old_free new_free (root_at roots k) above) where
    -- what the old tree and the free pages have, the new tree and the free pages have
    moved : (n : ℕ) → times n old_free + times n (pages_at old (root_at roots k)) ≡ times n new_free + times n (pages_at new above)
    moved n = replaces.free.moved n

    others_same : (j : ℕ) → j < length roots → (j ≡ k → ⊥) → AreSame old new (pages_at old (root_at roots j))
    others_same j inside other = times-all (λ n. old n ≡ new n) (pages_at old (root_at roots j)) (λ n some.
        let apart = two_parts (pages_at old) n roots j k inside below other in
        sym (replaces.outside n (times-not_among n (pages_at old (root_at roots k)) (omega (arith, some, apart, most n)))
        (times-not_among n (pages_at new above) (omega (arith, some, apart, most n, moved n)))))

    pub other-list : (j : ℕ) → j < length roots → (j ≡ k → ⊥) → list_at new (root_at roots j) ≡ list_at old (root_at roots j)
    other-list j inside other = root-stays old new [] list_of (root_at roots j).height (root_at roots j).page (others_same j inside other)

    other-pages : (j : ℕ) → j < length roots → (j ≡ k → ⊥) → pages_at new (root_at roots j) ≡ pages_at old (root_at roots j)
    other-pages j inside other = root-stays old new [] pages_of (root_at roots j).height (root_at roots j).page (others_same j inside other)

    -- pages outside of the pool stay
    pub elsewhere : (n : ℕ) → in_pool n ≡ false → new n ≡ old n
    elsewhere n outside =
        let none : times n old_free + times n (tree_pages old roots) ≡ 0 = forest.pages n ∙ ap (λ b. if b then 1 else 0) outside in
        let part = one_part (pages_at old) n roots k below in
        replaces.outside n (times-not_among n (pages_at old (root_at roots k)) (omega (arith, none, part)))
        (times-not_among n (pages_at new above) (omega (arith, none, part, moved n)))

    -- the new tree's pages are of the pool
    above_live : AllByRecursion (λ n. IsTrue (in_pool n)) (pages_at new above)
    above_live = all-weaker (λ n. IsTrue (is_live in_pool new_free n)) (λ n. IsTrue (in_pool n)) (λ n is. live_pool in_pool new_free n is) (pages_at new above) replaces.tree.tree.live

    new_tree : (j : ℕ) → j < length roots → IsTree (are_corners j) new in_pool (root_at (slice_set roots k above) j)
    new_tree j inside = elim (cases_eq j k) [
      | inl here ↦ subst (λ i. IsTree (are_corners i) new in_pool (root_at (slice_set roots k above) i)) (sym here)
          (subst (IsTree (are_corners k) new in_pool) (sym (set_here roots k above below))
          (relive (are_corners k) new (is_live in_pool new_free) in_pool above above_live replaces.tree))
      | inr other ↦ subst (IsTree (are_corners j) new in_pool) (sym (set_other roots k j above other))
          (is_tree-stays old new (are_corners j) in_pool in_pool (root_at roots j) (others_same j inside other) (forest.trees j inside).tree.live (forest.trees j inside))
    ]

    pub new-forest : IsForest are_corners new in_pool new_free (slice_set roots k above)
    new-forest = record {
      trees = λ j inside. new_tree j (subst (λ m. j < m) (set_length roots k above) inside);
      pages = λ n.
          let parts = set_part (pages_at old) (pages_at new) n above roots k below other-pages in
          let all : times n new_free + times n (tree_pages new (slice_set roots k above)) ≡ times n old_free + times n (tree_pages old roots) =
          omega (arith, parts, moved n) in
          all ∙ forest.pages n;
    }
