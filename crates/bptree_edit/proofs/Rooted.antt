-- Trees from their roots, as the nodes under these: before an edit, after it, and how many entries they have.
use Rattle.std.proofs.Common.{◌≡◌, ℕ, zero, suc, ◌+◌, ◌*◌, ◌^◌, ◌<◌, ◌≤◌, ◌==◌, Bool, true, false, not, ◌&&◌, ◌||◌, List, [], ◌∷◌, length, refl, sym, ap, ap₂, subst, ◌∙◌, arith, length-append}
use Rattle.std.specs.Prelude.{IsTrue, All, map, nat_lt, Option, Some}
use Rattle.std.specs.List.{AllByRecursion, IsDistinct}
use Rattle.std.proofs.Math.Nat.{mul-le-mul_right, pow-succ'}
use Rattle.std.proofs.lemmas.Bool.{and_parts}
use Rattle.std.proofs.lemmas.Bool.Decides.{nat_tests}
use Rattle.std.proofs.lemmas.List.{length-map}
use Rattle.page_laws.specs.declared.root.Root.{Root}
use Rattle.page_laws.specs.Pages.{is_among, is_live, AreFree}
use Rattle.bptree_node.specs.declared.rows.Entry.{Entry}
use Rattle.bptree_node.specs.declared.rows.Branch.{Branch}
use Rattle.bptree_node.specs.Nodes.{Node, Leaf, Inner, node_in}
use Rattle.bptree_node.specs.Trees.{Tree, Limb, tree_at, list_of, pages_of, node_entries, node_branches, IsRising, HasFirst, AreNodes, AreFilled, AreFilledBelow, HaveFirsts, HaveCorners, IsSound, IsTree, list_at, pages_at, at_root, IsSoundAt, HaveCornersAt}
use Rattle.bptree_node.specs.TreeLaws.{limb_at}
use Rattle.bptree_edit.specs.Changes.{StaysOutside, AreFreeAfter, Changes}
use Rattle.bptree_edit.specs.NodesAt.{times, list_under, pages_under, list_under_all, rows_in, least_rows, IsBranchOf, AreNodesUnder, AreOwn}
use Rattle.bptree_edit.proofs.Counts.{among-times, times-not_among, not_among-times, all-times, times-all, distinct-times, times-distinct, both_true}
use Rattle.bptree_edit.proofs.Under.{list-leaf, list-inner, list_all-cons}

-- ---- the tree's conditions, page by page

module _ (are_corners : List Entry → ℕ → ℕ → Type 0) (pages : ℕ → List ℕ) where
  branches_back : (l : ℕ) (bs : List Branch) → map (λ (limb : Limb (Tree l)). limb.branch) (map (limb_at pages l) bs) ≡ bs
  branches_back l [] = refl
  branches_back l (b ∷ bs) = ap (λ (cs : List Branch). b ∷ cs) (branches_back l bs)

  -- a node has as many rows as its tree
  rows-known : (l n : ℕ) → AreNodes pages l (tree_at pages l n) → AreFilled l (tree_at pages l n) → (least_rows l ≤ rows_in (node_in (pages n))) × AreFilledBelow l (tree_at pages l n)
  rows-known zero n nodes filled = (omega (arith, ap rows_in nodes, filled), tt)
  rows-known (suc l) n nodes filled =
      let limbs = (tree_at pages (suc l) n).limbs in
      (omega (arith, ap rows_in nodes.0, length-map limbs (λ (limb : Limb (Tree l)). limb.branch), filled.0), filled.1)

  abbrev pub Known : ℕ → ℕ → Type 0
  Known l n = AreNodes pages l (tree_at pages l n) → AreFilledBelow l (tree_at pages l n) → HaveFirsts l (tree_at pages l n) → HaveCorners are_corners l (tree_at pages l n)
      → AreNodesUnder are_corners pages l n

  children-known : (l : ℕ) → ((n : ℕ) → Known l n) → (bs : List Branch)
      → AllByRecursion (λ (limb : Limb (Tree l)). AreNodes pages l limb.below) (map (limb_at pages l) bs)
      → AllByRecursion (λ (limb : Limb (Tree l)). AreFilled l limb.below) (map (limb_at pages l) bs)
      → AllByRecursion (λ (limb : Limb (Tree l)). HasFirst limb.branch.key limb.branch.id (list_of l limb.below) × HaveFirsts l limb.below) (map (limb_at pages l) bs)
      → AllByRecursion (λ (limb : Limb (Tree l)). are_corners (list_of l limb.below) limb.branch.low limb.branch.high × HaveCorners are_corners l limb.below) (map (limb_at pages l) bs)
      → AllByRecursion (λ (b : Branch). IsBranchOf are_corners pages l b × AreNodesUnder are_corners pages l b.child) bs
  unfolding list_under
  children-known l each [] nodes filled firsts corners = tt
  children-known l each (b ∷ bs) nodes filled firsts corners =
      let rows = rows-known l b.child nodes.0 filled.0 in (
        (record { filled = rows.0; first = firsts.0.0; corners = corners.0.0 }, each b.child nodes.0 rows.1 firsts.0.1 corners.0.1),
        children-known l each bs nodes.1 filled.1 firsts.1 corners.1,
      )

  pub nodes-known : (l n : ℕ) → Known l n
  unfolding AreNodesUnder
  nodes-known zero n nodes filled firsts corners = ((tree_at pages zero n).entries, nodes)
  nodes-known (suc l) n nodes filled firsts corners =
      let bs = node_branches (node_in (pages n)) in
      (bs, (nodes.0 ∙ ap (λ (cs : List Branch). Some (Inner cs)) (branches_back l bs), children-known l (nodes-known l) bs nodes.1 filled firsts corners))

  -- ---- and back

  rows-told : (l n : ℕ) → AreNodesUnder are_corners pages l n → least_rows l ≤ rows_in (node_in (pages n)) → AreFilledBelow l (tree_at pages l n) → AreFilled l (tree_at pages l n)
  unfolding AreNodesUnder
  rows-told zero n are enough below = omega (arith, ap rows_in are.1, ap (λ (o : Option Node). length (node_entries o)) are.1, enough)
  rows-told (suc l) n are enough below = (
    omega (arith, ap rows_in are.1.0, ap (λ (o : Option Node). length (node_branches o)) are.1.0, enough, length-map (node_branches (node_in (pages n))) (limb_at pages l)),
    below,
  )

  pub record IsKnown (l n : ℕ) : Type 0 where
    pub nodes : AreNodes pages l (tree_at pages l n)
    pub filled : AreFilledBelow l (tree_at pages l n)
    pub firsts : HaveFirsts l (tree_at pages l n)
    pub corners : HaveCorners are_corners l (tree_at pages l n)

  pub record AreKnown (l : ℕ) (bs : List Branch) : Type 0 where
    pub nodes : AllByRecursion (λ (limb : Limb (Tree l)). AreNodes pages l limb.below) (map (limb_at pages l) bs)
    pub filled : AllByRecursion (λ (limb : Limb (Tree l)). AreFilled l limb.below) (map (limb_at pages l) bs)
    pub firsts : AllByRecursion (λ (limb : Limb (Tree l)). HasFirst limb.branch.key limb.branch.id (list_of l limb.below) × HaveFirsts l limb.below) (map (limb_at pages l) bs)
    pub corners : AllByRecursion (λ (limb : Limb (Tree l)). are_corners (list_of l limb.below) limb.branch.low limb.branch.high × HaveCorners are_corners l limb.below) (map (limb_at pages l) bs)

  children-told : (l : ℕ) → ((n : ℕ) → AreNodesUnder are_corners pages l n → IsKnown l n) → (bs : List Branch)
      → AllByRecursion (λ (b : Branch). IsBranchOf are_corners pages l b × AreNodesUnder are_corners pages l b.child) bs → AreKnown l bs
  unfolding list_under
  children-told l each [] are = record { nodes = tt; filled = tt; firsts = tt; corners = tt }
  children-told l each (b ∷ bs) are =
      let here = each b.child are.0.1 in
      let there = children-told l each bs are.1 in
      record {
        nodes = (here.nodes, there.nodes);
        filled = (rows-told l b.child are.0.1 are.0.0.filled here.filled, there.filled);
        firsts = ((are.0.0.first, here.firsts), there.firsts);
        corners = ((are.0.0.corners, here.corners), there.corners);
      }

  pub nodes-told : (l n : ℕ) → AreNodesUnder are_corners pages l n → IsKnown l n
  unfolding AreNodesUnder
  nodes-told zero n are = record { nodes = are.1 ∙ ap (λ (es : List Entry). Some (Leaf es)) (sym (ap node_entries are.1)); filled = tt; firsts = tt; corners = tt }
  nodes-told (suc l) n are =
      let bs = node_branches (node_in (pages n)) in
      let same : are.0 ≡ bs = sym (ap node_branches are.1.0) in
      let known = subst (AreKnown l) same (children-told l (nodes-told l) are.0 are.1.1) in
      record {
        nodes = (are.1.0 ∙ ap (λ (cs : List Branch). Some (Inner cs)) (same ∙ sym (branches_back l bs)), known.nodes);
        filled = known.filled;
        firsts = known.firsts;
        corners = known.corners;
      }

  -- ---- how many entries there are

  least-under : (l least : ℕ) → ((n : ℕ) → AreNodesUnder are_corners pages l n → least_rows l ≤ rows_in (node_in (pages n)) → least ≤ length (list_under pages l n)) → (bs : List Branch)
      → AllByRecursion (λ (b : Branch). IsBranchOf are_corners pages l b × AreNodesUnder are_corners pages l b.child) bs → length bs * least ≤ length (list_under_all pages l bs)
  least-under l least each [] are = omega arith
  least-under l least each (b ∷ bs) are =
      omega (
        arith,
        each b.child are.0.1 are.0.0.filled,
        least-under l least each bs are.1,
        ap length (list_all-cons pages l b bs),
        length-append (list_under pages l b.child) (list_under_all pages l bs),
      )

  pub list-least : (l n : ℕ) → AreNodesUnder are_corners pages l n → least_rows l ≤ rows_in (node_in (pages n)) → 15 * 7 ^ l ≤ length (list_under pages l n)
  unfolding AreNodesUnder
  list-least zero n are enough = omega (arith, ap rows_in are.1, ap length (list-leaf pages n are.0 are.1), enough)
  list-least (suc l) n are enough =
      let least = 15 * 7 ^ l in
      let many : 7 * least ≤ length are.0 * least = mul-le-mul_right least (omega (arith, ap rows_in are.1.0, enough)) in
      omega (arith, many, least-under l least (list-least l) are.0 are.1.1, ap length (list-inner pages l n are.0 are.1.0), pow-succ' 7 l)

-- ---- from a root

pub by-recursion : {A : Type 0} (P : A → Type 0) (xs : List A) → All P xs → AllByRecursion P xs
by-recursion P [] all = tt
by-recursion P (x ∷ xs) all = (all 0 x (omega arith), by-recursion P xs (λ k d below. all (suc k) d (omega (arith, below))))

pub own-of : (in_pool : ℕ → Bool) (free used : List ℕ) → AreFree in_pool free → IsDistinct (λ a b. a == b) used → AllByRecursion (λ n. IsTrue (is_live in_pool free n)) used
    → AreOwn in_pool free used
own-of in_pool free used are distinct live = record {
  once = λ n. once_of n (times n used) refl;
  pool = λ n some. pool_of n (times n used) refl some;
}
  where
    once_of : (n k : ℕ) → times n used ≡ k → times n free + times n used ≤ 1
    once_of n zero none = omega (arith, none, distinct-times n free are.distinct)
    once_of n (suc k) some =
        let is = all-times (λ m. IsTrue (is_live in_pool free m)) n used live (omega (arith, some)) in
        omega (arith, not_among-times n free (and_parts (in_pool n) (not (is_among n free)) is).1, distinct-times n used distinct)

    pool_of : (n k : ℕ) → times n used ≡ k → 0 < times n free + times n used → IsTrue (in_pool n)
    pool_of n zero none some = all-times (λ m. IsTrue (in_pool m)) n free are.pool (omega (arith, none, some))
    pool_of n (suc k) is some = (and_parts (in_pool n) (not (is_among n free)) (all-times (λ m. IsTrue (is_live in_pool free m)) n used live (omega (arith, is)))).0

pub list_at-under : (pages : ℕ → List ℕ) (root : Root) (l : ℕ) → root.height ≡ suc l → list_at pages root ≡ list_under pages l root.page
unfolding list_under
list_at-under pages root l is = ap (λ (h : ℕ). at_root [] list_of pages h root.page) is

pub pages_at-under : (pages : ℕ → List ℕ) (root : Root) (l : ℕ) → root.height ≡ suc l → pages_at pages root ≡ pages_under pages l root.page
unfolding pages_under
pages_at-under pages root l is = ap (λ (h : ℕ). at_root [] pages_of pages h root.page) is

-- the nodes of a tree
pub tree-nodes : (are_corners : List Entry → ℕ → ℕ → Type 0) (pages : ℕ → List ℕ) (is_live : ℕ → Bool) (root : Root) (l : ℕ) → root.height ≡ suc l → IsTree are_corners pages is_live root
    → AreNodesUnder are_corners pages l root.page
tree-nodes are_corners pages is_live root l is tree =
    let sound : IsSound pages l (tree_at pages l root.page) = subst (λ (h : ℕ). IsSoundAt pages h root.page) is tree.tree.sound in
    let corners : HaveCorners are_corners l (tree_at pages l root.page) = subst (λ (h : ℕ). HaveCornersAt are_corners pages h root.page) is tree.corners in
    nodes-known are_corners pages l root.page sound.nodes sound.filled sound.firsts corners

-- ---- after

among-is : (n : ℕ) (xs : List ℕ) → is_among n xs ≡ nat_lt 0 (times n xs)
among-is n xs = either (is_among n xs) refl
  where
    either : (b : Bool) → is_among n xs ≡ b → is_among n xs ≡ nat_lt 0 (times n xs)
    either true is = let some = among-times n xs is in is ∙ grind (arith, nat_tests, some)
    either false is =
        let none : times n xs ≡ 0 = not_among-times n xs (ap not is) in
        is ∙ grind (arith, nat_tests, none)

after_free : (a b c d : ℕ) → a + b ≡ c + d → a + b ≤ 1 → nat_lt 0 c ≡ ((nat_lt 0 a || nat_lt 0 b) && not (nat_lt 0 d))
after_free a b c d same once = grind (arith, nat_tests, same, once)

module _ (are_changed : List Entry → List Entry → Type 0) (are_corners : List Entry → ℕ → ℕ → Type 0) (in_pool : ℕ → Bool) (old new : ℕ → List ℕ) (old_free new_free old_pages : List ℕ)
    (old_list : List Entry) (root : Root) (l : ℕ) (is : root.height ≡ suc l) (own : AreOwn in_pool old_free old_pages)
    (changes : Changes are_changed old new old_free new_free old_pages (pages_under new l root.page) old_list (list_under new l root.page)) where
  pub outside-after : StaysOutside old_pages (pages_at new root) old new
  outside-after n not_old not_new =
      changes.outside n (not_among-times n (pages_under new l root.page) (subst (λ (ns : List ℕ). IsTrue (not (is_among n ns))) (pages_at-under new root l is) not_new))

  pub free-after : AreFreeAfter old_pages (pages_at new root) old_free new_free
  free-after = record {
    free_are = λ n.
        among-is n new_free
        ∙ after_free (times n old_free) (times n old_pages) (times n new_free) (times n (pages_at new root)) (omega (arith, changes.moved n, ap (times n) (pages_at-under new root l is))) (own.once n)
        ∙ ap₂ (λ (a b : Bool). a && not b) (ap₂ (λ (a b : Bool). a || b) (sym (among-is n old_free)) (sym (among-is n old_pages))) (sym (among-is n (pages_at new root)));
    moved = λ n. omega (arith, changes.moved n, ap (times n) (pages_at-under new root l is));
  }

  pub tree-after : root.height ≤ 5 → IsRising (list_under new l root.page) → AreNodesUnder are_corners new l root.page → IsTree are_corners new (is_live in_pool new_free) root
  tree-after low rising nodes =
      let known = nodes-told are_corners new l root.page nodes in
      let sound : IsSound new l (tree_at new l root.page) = record { nodes = known.nodes; filled = known.filled; firsts = known.firsts } in
      let under = pages_at-under new root l is in
      record {
        tree = record {
          height = low;
          sound = subst (λ (h : ℕ). IsSoundAt new h root.page) (sym is) sound;
          rising = subst IsRising (sym (list_at-under new root l is)) rising;
          distinct = times-distinct (pages_at new root) (λ n. omega (arith, changes.moved n, own.once n, ap (times n) under));
          live = times-all (λ n. IsTrue (is_live in_pool new_free n)) (pages_at new root) (λ n some.
              let in_tree : 0 < times n (pages_under new l root.page) = omega (arith, some, ap (times n) under) in
              both_true (in_pool n) (not (is_among n new_free)) (own.pool n (omega (arith, in_tree, changes.moved n)))
              (times-not_among n new_free (omega (arith, in_tree, changes.moved n, own.once n))));
        };
        corners = subst (λ (h : ℕ). HaveCornersAt are_corners new h root.page) (sym is) known.corners;
      }
