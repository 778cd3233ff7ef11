-- What is under nodes and branches: read from their rows, joined, and the same where its pages are.
use Rattle.std.proofs.Common.{◌≡◌, ℕ, zero, suc, ◌+◌, ◌<◌, List, [], ◌∷◌, ◌++◌, refl, sym, ap, ap₂, subst, ◌∙◌, arith}
use Rattle.std.specs.Prelude.{map, Option, Some}
use Rattle.std.specs.List.{flat_map, AllByRecursion}
use Rattle.std.proofs.lemmas.List.Folds.{flat_map-map}
use Rattle.std.proofs.lemmas.List.Concat.{flat_map-append}
use Rattle.bptree_node.specs.declared.rows.Entry.{Entry}
use Rattle.bptree_node.specs.declared.rows.Branch.{Branch}
use Rattle.bptree_node.specs.Nodes.{Node, Leaf, Inner, node_in}
use Rattle.bptree_node.specs.Trees.{Tree, Limb, tree_at, list_of, pages_of, node_entries, node_branches}
use Rattle.bptree_node.specs.TreeLaws.{limb_at, tree-stays}
use Rattle.bptree_node.specs.Lists.{all-front, all-back, all-append}
use Rattle.bptree_edit.specs.NodesAt.{times, list_under, pages_under, list_under_all, pages_under_all, IsBranchOf, AreNodesUnder, AreChildren}
use Rattle.bptree_edit.proofs.Counts.{times-none, times-cons, times-append, times-all, one_same}

-- ---- rows of a node

pub list-leaf : (pages : ℕ → List ℕ) (n : ℕ) (entries : List Entry) → node_in (pages n) ≡ Some (Leaf entries) → list_under pages 0 n ≡ entries
unfolding list_under
list-leaf pages n entries is = ap node_entries is

pub pages-leaf : (pages : ℕ → List ℕ) (n : ℕ) → pages_under pages 0 n ≡ n ∷ []
unfolding pages_under
pages-leaf pages n = refl

pub list-inner : (pages : ℕ → List ℕ) (l n : ℕ) (bs : List Branch) → node_in (pages n) ≡ Some (Inner bs) → list_under pages (suc l) n ≡ list_under_all pages l bs
unfolding list_under list_under_all
list-inner pages l n bs is =
    ap (λ (o : Option Node). flat_map (λ (limb : Limb (Tree l)). list_of l limb.below) (map (limb_at pages l) (node_branches o))) is
    ∙ flat_map-map (λ (limb : Limb (Tree l)). list_of l limb.below) (limb_at pages l) bs

pub pages-inner : (pages : ℕ → List ℕ) (l n : ℕ) (bs : List Branch) → node_in (pages n) ≡ Some (Inner bs) → pages_under pages (suc l) n ≡ n ∷ pages_under_all pages l bs
unfolding pages_under pages_under_all
pages-inner pages l n bs is =
    ap (λ (o : Option Node). n ∷ flat_map (λ (limb : Limb (Tree l)). pages_of l limb.below) (map (limb_at pages l) (node_branches o))) is
    ∙ ap (λ (ns : List ℕ). n ∷ ns) (flat_map-map (λ (limb : Limb (Tree l)). pages_of l limb.below) (limb_at pages l) bs)

-- ---- branches joined

pub list_all-cons : (pages : ℕ → List ℕ) (l : ℕ) (b : Branch) (bs : List Branch) → list_under_all pages l (b ∷ bs) ≡ list_under pages l b.child ++ list_under_all pages l bs
unfolding list_under_all
list_all-cons pages l b bs = refl

pub list_all-append : (pages : ℕ → List ℕ) (l : ℕ) (bs cs : List Branch) → list_under_all pages l (bs ++ cs) ≡ list_under_all pages l bs ++ list_under_all pages l cs
unfolding list_under_all
list_all-append pages l bs cs = flat_map-append (λ (b : Branch). list_under pages l b.child) bs cs

pub list_all-none : (pages : ℕ → List ℕ) (l : ℕ) → list_under_all pages l [] ≡ []
unfolding list_under_all
list_all-none pages l = refl

pub times_all-cons : (m : ℕ) (pages : ℕ → List ℕ) (l : ℕ) (b : Branch) (bs : List Branch)
    → times m (pages_under_all pages l (b ∷ bs)) ≡ times m (pages_under pages l b.child) + times m (pages_under_all pages l bs)
unfolding pages_under_all
times_all-cons m pages l b bs = times-append m (pages_under pages l b.child) (flat_map (λ (c : Branch). pages_under pages l c.child) bs)

pub times_all-none : (m : ℕ) (pages : ℕ → List ℕ) (l : ℕ) → times m (pages_under_all pages l []) ≡ 0
unfolding pages_under_all
times_all-none m pages l = times-none m

pub times_all-append : (m : ℕ) (pages : ℕ → List ℕ) (l : ℕ) (bs cs : List Branch)
    → times m (pages_under_all pages l (bs ++ cs)) ≡ times m (pages_under_all pages l bs) + times m (pages_under_all pages l cs)
unfolding pages_under_all
times_all-append m pages l bs cs =
    ap (times m) (flat_map-append (λ (b : Branch). pages_under pages l b.child) bs cs)
    ∙ times-append m (flat_map (λ (b : Branch). pages_under pages l b.child) bs) (flat_map (λ (b : Branch). pages_under pages l b.child) cs)

-- the node's own page is one of those under it
pub own_page : (pages : ℕ → List ℕ) (l n : ℕ) → 0 < times n (pages_under pages l n)
unfolding pages_under
own_page pages zero n = omega (arith, times-cons n n [], one_same n)
own_page pages (suc l) n = omega (arith, times-cons n n (flat_map (λ (limb : Limb (Tree l)). pages_of l limb.below) (tree_at pages (suc l) n).limbs), one_same n)

-- ---- what stays

-- the pages are as they were
abbrev pub AreKept : (old new : ℕ → List ℕ) → List ℕ → Type 0
AreKept old new numbers = (m : ℕ) → 0 < times m numbers → new m ≡ old m

tree-kept : (old new : ℕ → List ℕ) (l n : ℕ) → AreKept old new (pages_under old l n) → tree_at new l n ≡ tree_at old l n
unfolding pages_under
tree-kept old new l n kept = tree-stays old new l n (times-all (λ m. old m ≡ new m) (pages_of l (tree_at old l n)) (λ m some. sym (kept m some)))

pub list-kept : (old new : ℕ → List ℕ) (l n : ℕ) → AreKept old new (pages_under old l n) → list_under new l n ≡ list_under old l n
unfolding list_under
list-kept old new l n kept = ap (list_of l) (tree-kept old new l n kept)

pub pages-kept : (old new : ℕ → List ℕ) (l n : ℕ) → AreKept old new (pages_under old l n) → pages_under new l n ≡ pages_under old l n
unfolding pages_under
pages-kept old new l n kept = ap (pages_of l) (tree-kept old new l n kept)

first-kept : (old new : ℕ → List ℕ) (l : ℕ) (b : Branch) (bs : List Branch) → AreKept old new (pages_under_all old l (b ∷ bs)) → AreKept old new (pages_under old l b.child)
first-kept old new l b bs kept = λ m some. kept m (omega (arith, some, times_all-cons m old l b bs))

others-kept : (old new : ℕ → List ℕ) (l : ℕ) (b : Branch) (bs : List Branch) → AreKept old new (pages_under_all old l (b ∷ bs)) → AreKept old new (pages_under_all old l bs)
others-kept old new l b bs kept = λ m some. kept m (omega (arith, some, times_all-cons m old l b bs))

pub list_all-kept : (old new : ℕ → List ℕ) (l : ℕ) (bs : List Branch) → AreKept old new (pages_under_all old l bs) → list_under_all new l bs ≡ list_under_all old l bs
list_all-kept old new l [] kept = list_all-none new l ∙ sym (list_all-none old l)
list_all-kept old new l (b ∷ bs) kept =
    list_all-cons new l b bs
    ∙ ap₂ (λ (xs ys : List Entry). xs ++ ys) (list-kept old new l b.child (first-kept old new l b bs kept)) (list_all-kept old new l bs (others-kept old new l b bs kept))
    ∙ sym (list_all-cons old l b bs)

pub times_all-kept : (m : ℕ) (old new : ℕ → List ℕ) (l : ℕ) (bs : List Branch) → AreKept old new (pages_under_all old l bs)
    → times m (pages_under_all new l bs) ≡ times m (pages_under_all old l bs)
times_all-kept m old new l [] kept = times_all-none m new l ∙ sym (times_all-none m old l)
times_all-kept m old new l (b ∷ bs) kept =
    times_all-cons m new l b bs
    ∙ ap₂ (λ (x y : ℕ). x + y) (ap (times m) (pages-kept old new l b.child (first-kept old new l b bs kept))) (times_all-kept m old new l bs (others-kept old new l b bs kept))
    ∙ sym (times_all-cons m old l b bs)

module _ (are_corners : List Entry → ℕ → ℕ → Type 0) (old new : ℕ → List ℕ) where
  branch-kept : (l : ℕ) (b : Branch) → AreKept old new (pages_under old l b.child) → IsBranchOf are_corners old l b → IsBranchOf are_corners new l b
  branch-kept l b kept is =
      let entries = list-kept old new l b.child kept in
      record {
        filled = rw (kept b.child (own_page old l b.child)) is.filled;
        first = rw entries is.first;
        corners = rw entries is.corners;
      }

  children-kept : (l : ℕ) → ((n : ℕ) → AreKept old new (pages_under old l n) → AreNodesUnder are_corners old l n → AreNodesUnder are_corners new l n) → (bs : List Branch)
      → AreKept old new (pages_under_all old l bs)
      → AllByRecursion (λ (b : Branch). IsBranchOf are_corners old l b × AreNodesUnder are_corners old l b.child) bs
      → AllByRecursion (λ (b : Branch). IsBranchOf are_corners new l b × AreNodesUnder are_corners new l b.child) bs
  children-kept l each [] kept are = tt
  children-kept l each (b ∷ bs) kept are =
      let here = first-kept old new l b bs kept in
      ((branch-kept l b here are.0.0, each b.child here are.0.1), children-kept l each bs (others-kept old new l b bs kept) are.1)

  pub nodes-kept : (l n : ℕ) → AreKept old new (pages_under old l n) → AreNodesUnder are_corners old l n → AreNodesUnder are_corners new l n
  unfolding AreNodesUnder
  nodes-kept zero n kept are = (are.0, ap node_in (kept n (own_page old zero n)) ∙ are.1)
  nodes-kept (suc l) n kept are =
      let bs = are.0 in
      let under = pages-inner old l n bs are.1.0 in (
        bs,
        (
          ap node_in (kept n (own_page old (suc l) n)) ∙ are.1.0,
          children-kept l (nodes-kept l) bs (λ m some. kept m (omega (arith, some, ap (times m) under, times-cons m n (pages_under_all old l bs)))) are.1.1,
        ),
      )

  pub all-kept : (l : ℕ) (bs : List Branch) → AreKept old new (pages_under_all old l bs) → AreChildren are_corners old l bs → AreChildren are_corners new l bs
  unfolding AreChildren
  all-kept l bs kept are = children-kept l (nodes-kept l) bs kept are

-- ---- parts of branches

module _ (are_corners : List Entry → ℕ → ℕ → Type 0) (pages : ℕ → List ℕ) (l : ℕ) where
  pub children-front : (bs cs : List Branch) → AreChildren are_corners pages l (bs ++ cs) → AreChildren are_corners pages l bs
  unfolding AreChildren
  children-front bs cs are = all-front (λ (b : Branch). IsBranchOf are_corners pages l b × AreNodesUnder are_corners pages l b.child) bs cs are

  pub children-back : (bs cs : List Branch) → AreChildren are_corners pages l (bs ++ cs) → AreChildren are_corners pages l cs
  unfolding AreChildren
  children-back bs cs are = all-back (λ (b : Branch). IsBranchOf are_corners pages l b × AreNodesUnder are_corners pages l b.child) bs cs are

  pub children-append : (bs cs : List Branch) → AreChildren are_corners pages l bs → AreChildren are_corners pages l cs → AreChildren are_corners pages l (bs ++ cs)
  unfolding AreChildren
  children-append bs cs one two = all-append (λ (b : Branch). IsBranchOf are_corners pages l b × AreNodesUnder are_corners pages l b.child) bs cs one two

  pub children-first : (b : Branch) (bs : List Branch) → AreChildren are_corners pages l (b ∷ bs) → IsBranchOf are_corners pages l b × AreNodesUnder are_corners pages l b.child
  unfolding AreChildren
  children-first b bs are = are.0

  pub children-others : (b : Branch) (bs : List Branch) → AreChildren are_corners pages l (b ∷ bs) → AreChildren are_corners pages l bs
  unfolding AreChildren
  children-others b bs are = are.1

  pub children-cons : (b : Branch) (bs : List Branch) → IsBranchOf are_corners pages l b × AreNodesUnder are_corners pages l b.child → AreChildren are_corners pages l bs
      → AreChildren are_corners pages l (b ∷ bs)
  unfolding AreChildren
  children-cons b bs one two = (one, two)

  pub children-none : AreChildren are_corners pages l []
  unfolding AreChildren
  children-none = tt

  -- the children of an inner node
  pub children-of : (n : ℕ) (bs : List Branch) → node_in (pages n) ≡ Some (Inner bs) → AreNodesUnder are_corners pages (suc l) n → AreChildren are_corners pages l bs
  unfolding AreNodesUnder AreChildren
  children-of n bs is are =
      let same : are.0 ≡ bs = let one = are.1.0 in cc in
      subst (AllByRecursion (λ (b : Branch). IsBranchOf are_corners pages l b × AreNodesUnder are_corners pages l b.child)) same are.1.1

  pub nodes-of : (n : ℕ) (bs : List Branch) → node_in (pages n) ≡ Some (Inner bs) → AreChildren are_corners pages l bs → AreNodesUnder are_corners pages (suc l) n
  unfolding AreNodesUnder AreChildren
  nodes-of n bs is are = (bs, (is, are))

-- a leaf, and no leaf at another level
pub leaf-of : (are_corners : List Entry → ℕ → ℕ → Type 0) (pages : ℕ → List ℕ) (n : ℕ) → AreNodesUnder are_corners pages 0 n → (entries : List Entry) × (node_in (pages n) ≡ Some (Leaf entries))
unfolding AreNodesUnder
leaf-of are_corners pages n are = are

pub of-leaf : (are_corners : List Entry → ℕ → ℕ → Type 0) (pages : ℕ → List ℕ) (n : ℕ) (entries : List Entry) → node_in (pages n) ≡ Some (Leaf entries) → AreNodesUnder are_corners pages 0 n
unfolding AreNodesUnder
of-leaf are_corners pages n entries is = (entries, is)

pub inner-of : (are_corners : List Entry → ℕ → ℕ → Type 0) (pages : ℕ → List ℕ) (l n : ℕ) → AreNodesUnder are_corners pages (suc l) n → (bs : List Branch) × (node_in (pages n) ≡ Some (Inner bs))
unfolding AreNodesUnder
inner-of are_corners pages l n are = (are.0, are.1.0)
