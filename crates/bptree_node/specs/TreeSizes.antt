-- How large trees are.
use Rattle.std.proofs.Common.{◌≡◌, ℕ, zero, suc, ◌+◌, ◌-◌, ◌*◌, ◌^◌, ◌≤◌, Bool, true, false, List, [], ◌∷◌, ◌++◌, length, refl, sym, ap, ap₂, ◌∙◌, arith}
use Rattle.std.specs.Prelude.{map, sum_by, if◌then◌else◌, Option, Some, None}
use Rattle.std.specs.List.{flat_map}
use Rattle.std.proofs.Math.Nat.{mul-le-mul_left, mul-le-mul_right, one-le-pow, add-mul, pow-succ', pow-le-pow_right}
use Rattle.std.proofs.lemmas.List.{length-append, map-append}
use Rattle.std.proofs.lemmas.List.Sums.{sum_by-cons, length-filter, count_by-le-length}
use Rattle.page_laws.specs.declared.root.Root.{Root}
use Rattle.bptree_node.specs.declared.layout.TheConstants.{HEIGHT_LIMIT}
use Rattle.bptree_node.specs.declared.rows.Entry.{Entry}
use Rattle.bptree_node.specs.declared.rows.Branch.{Branch}
use Rattle.bptree_node.specs.Nodes.{Node, Leaf, Inner, node_in}
use Rattle.bptree_node.specs.NodeLaws.{leaf_counts, inner_counts}
use Rattle.bptree_node.specs.Trees.{Tree, Limb, node_entries, node_branches, tree_at, list_of, pages_of, visited, Place, places_of, list_at, pages_at}
use Rattle.bptree_node.specs.TreeLaws.{limb_at, walked}

-- ---- rows of a page, whatever it holds

few_of : (page : List ℕ) (o : Option Node) → node_in page ≡ o → (length (node_entries o) ≤ 30) × (length (node_branches o) ≤ 14)
few_of page None is = (omega arith, omega arith)
few_of page (Some (Leaf entries)) is = ((leaf_counts page entries is).1, omega arith)
few_of page (Some (Inner branches)) is = (omega arith, (inner_counts page branches is).1)

pub entries-few : (page : List ℕ) → length (node_entries (node_in page)) ≤ 30
entries-few page = (few_of page (node_in page) refl).0

pub branches-few : (page : List ℕ) → length (node_branches (node_in page)) ≤ 14
branches-few page = (few_of page (node_in page) refl).1

-- ---- the entries and the pages of a tree, whatever the pages hold

module _ (pages : ℕ → List ℕ) where
  entries-under : (l most : ℕ) → ((page : ℕ) → length (list_of l (tree_at pages l page)) ≤ most) → (bs : List Branch)
      → length (flat_map (λ (limb : Limb (Tree l)). list_of l limb.below) (map (limb_at pages l) bs)) ≤ length bs * most
  entries-under l most each [] = omega arith
  entries-under l most each (b ∷ bs) =
      let here = list_of l (tree_at pages l b.child) in
      let there = flat_map (λ (limb : Limb (Tree l)). list_of l limb.below) (map (limb_at pages l) bs) in
      omega (arith, length-append here there, each b.child, entries-under l most each bs)

  pub list-few : (l page : ℕ) → length (list_of l (tree_at pages l page)) ≤ 30 * 14 ^ l
  list-few zero page = omega (arith, entries-few (pages page))
  list-few (suc l) page =
      let most = 30 * 14 ^ l in
      let under = entries-under l most (list-few l) (node_branches (node_in (pages page))) in
      let few : length (node_branches (node_in (pages page))) * most ≤ 14 * most = mul-le-mul_right most (branches-few (pages page)) in
      omega (arith, under, few, pow-succ' 14 l)

  pages-under : (l most : ℕ) → ((page : ℕ) → 13 * length (pages_of l (tree_at pages l page)) + 1 ≤ most) → (bs : List Branch)
      → 13 * length (flat_map (λ (limb : Limb (Tree l)). pages_of l limb.below) (map (limb_at pages l) bs)) + length bs ≤ length bs * most
  pages-under l most each [] = omega arith
  pages-under l most each (b ∷ bs) =
      let here = pages_of l (tree_at pages l b.child) in
      let there = flat_map (λ (limb : Limb (Tree l)). pages_of l limb.below) (map (limb_at pages l) bs) in
      omega (arith, length-append here there, each b.child, pages-under l most each bs)

  -- 1 + 14 + 14 * 14 and so on
  pub pages-few : (l page : ℕ) → 13 * length (pages_of l (tree_at pages l page)) + 1 ≤ 14 ^ suc l
  pages-few zero page = omega arith
  pages-few (suc l) page =
      let most = 14 ^ suc l in
      let bs = node_branches (node_in (pages page)) in
      let under = pages-under l most (pages-few l) bs in
      let some : 1 ≤ most = one-le-pow (suc l) 14 (omega arith) in
      let few : (14 - length bs) * 1 ≤ (14 - length bs) * most = mul-le-mul_left (14 - length bs) some in
      let whole : length bs * most + (14 - length bs) * most ≡ 14 * most =
      sym (add-mul (length bs) (14 - length bs) most) ∙ ap (λ m. m * most) (omega (arith, branches-few (pages page))) in
      omega (arith, under, few, whole, branches-few (pages page), pow-succ' 14 (suc l))

-- ---- from a root

pub list_at-few : (pages : ℕ → List ℕ) (root : Root) → root.height ≤ HEIGHT_LIMIT → length (list_at pages root) ≤ 1152480
list_at-few pages root low = of_height root.height low
  where
    of_height : (height : ℕ) → height ≤ 5 → length (list_at pages (record { page = root.page; height = height })) ≤ 1152480
    of_height zero low = omega arith
    of_height (suc l) low =
        let fewer : 14 ^ l ≤ 14 ^ 4 = pow-le-pow_right {n = 14} (omega arith) {i = l} {j = 4} (omega (arith, low)) in
        omega (arith, list-few pages l root.page, fewer)

pub pages_at-few : (pages : ℕ → List ℕ) (root : Root) → root.height ≤ HEIGHT_LIMIT → length (pages_at pages root) ≤ 41371
pages_at-few pages root low = of_height root.height low
  where
    of_height : (height : ℕ) → height ≤ 5 → length (pages_at pages (record { page = root.page; height = height })) ≤ 41371
    of_height zero low = omega arith
    of_height (suc l) low =
        let fewer : 14 ^ suc l ≤ 14 ^ 5 = pow-le-pow_right {n = 14} (omega arith) {i = suc l} {j = 5} low in
        omega (arith, pages-few pages l root.page, fewer)

-- ---- what walks visit

module _ (meets : ℕ → ℕ → Bool) where
  visited-under : (l : ℕ) → ((t : Tree l) → visited meets l t ≤ length (pages_of l t)) → (limbs : List (Limb (Tree l)))
      → sum_by (λ (limb : Limb (Tree l)). if meets limb.branch.low limb.branch.high then visited meets l limb.below else 0) limbs
      ≤ length (flat_map (λ (limb : Limb (Tree l)). pages_of l limb.below) limbs)
  visited-under l each [] = omega arith
  visited-under l each (limb ∷ limbs) =
      let count = λ (limb : Limb (Tree l)). if meets limb.branch.low limb.branch.high then visited meets l limb.below else 0 in
      let here = pages_of l limb.below in
      let there = flat_map (λ (limb : Limb (Tree l)). pages_of l limb.below) limbs in
      omega (
        arith,
        sum_by-cons count limb limbs,
        length-append here there,
        followed (meets limb.branch.low limb.branch.high) (each limb.below),
        visited-under l each limbs,
      )
    where
      followed : (b : Bool) → visited meets l limb.below ≤ length (pages_of l limb.below)
          → (if b then visited meets l limb.below else 0) ≤ length (pages_of l limb.below)
      followed true few = few
      followed false few = omega arith

  -- a walk visits no page twice
  pub visited-few : (l : ℕ) (t : Tree l) → visited meets l t ≤ length (pages_of l t)
  visited-few zero t = omega arith
  visited-few (suc l) t = omega (arith, visited-under l (visited-few l) t.limbs)

module _ (meets : ℕ → ℕ → Bool) (all : (low high : ℕ) → meets low high ≡ true) where
  visited-each : (l : ℕ) → ((t : Tree l) → visited meets l t ≡ length (pages_of l t)) → (limbs : List (Limb (Tree l)))
      → sum_by (λ (limb : Limb (Tree l)). if meets limb.branch.low limb.branch.high then visited meets l limb.below else 0) limbs
      ≡ length (flat_map (λ (limb : Limb (Tree l)). pages_of l limb.below) limbs)
  visited-each l each [] = refl
  visited-each l each (limb ∷ limbs) =
      let count = λ (limb : Limb (Tree l)). if meets limb.branch.low limb.branch.high then visited meets l limb.below else 0 in
      let there = flat_map (λ (limb : Limb (Tree l)). pages_of l limb.below) limbs in
      sum_by-cons count limb limbs
      ∙ (λ i. (if all limb.branch.low limb.branch.high i then visited meets l limb.below else 0) + visited-each l each limbs i)
      ∙ ap (λ n. n + length there) (each limb.below)
      ∙ sym (length-append (pages_of l limb.below) there)

  -- if every child meets, each page is visited
  pub visited-all : (l : ℕ) (t : Tree l) → visited meets l t ≡ length (pages_of l t)
  visited-all zero t = refl
  visited-all (suc l) t = ap suc (visited-each l (visited-all l) t.limbs)

-- ---- what walks give

module _ (meets : ℕ → ℕ → Bool) (has : ℕ → Bool) where
  walked-under : (l : ℕ) → ((t : Tree l) → length (walked meets has l t) ≤ length (list_of l t)) → (limbs : List (Limb (Tree l)))
      → length (flat_map (λ (limb : Limb (Tree l)). if meets limb.branch.low limb.branch.high then walked meets has l limb.below else []) limbs)
      ≤ length (flat_map (λ (limb : Limb (Tree l)). list_of l limb.below) limbs)
  walked-under l each [] = omega arith
  walked-under l each (limb ∷ limbs) =
      let here = if meets limb.branch.low limb.branch.high then walked meets has l limb.below else [] in
      let there = flat_map (λ (limb : Limb (Tree l)). if meets limb.branch.low limb.branch.high then walked meets has l limb.below else []) limbs in
      omega (
        arith,
        length-append here there,
        length-append (list_of l limb.below) (flat_map (λ (limb : Limb (Tree l)). list_of l limb.below) limbs),
        followed (meets limb.branch.low limb.branch.high) (each limb.below),
        walked-under l each limbs,
      )
    where
      followed : (b : Bool) → length (walked meets has l limb.below) ≤ length (list_of l limb.below)
          → length (if b then walked meets has l limb.below else []) ≤ length (list_of l limb.below)
      followed true few = few
      followed false few = omega arith

  -- no more than the tree has, whatever meets
  pub walked-few : (l : ℕ) (t : Tree l) → length (walked meets has l t) ≤ length (list_of l t)
  walked-few zero t =
      let p = λ (e : Entry). has e.key in omega (arith, length-filter p t.entries, count_by-le-length p t.entries)
  walked-few (suc l) t = walked-under l (walked-few l) t.limbs

-- ---- where the nodes are

places-under : (l : ℕ) → ((t : Tree l) → map (λ (place : Place). place.page) (places_of l t) ≡ pages_of l t) → (limbs : List (Limb (Tree l)))
    → map (λ (place : Place). place.page) (flat_map (λ (limb : Limb (Tree l)). places_of l limb.below) limbs)
    ≡ flat_map (λ (limb : Limb (Tree l)). pages_of l limb.below) limbs
places-under l each [] = refl
places-under l each (limb ∷ limbs) =
    map-append (λ (place : Place). place.page) (places_of l limb.below) (flat_map (λ (limb : Limb (Tree l)). places_of l limb.below) limbs)
    ∙ ap₂ (λ (xs ys : List ℕ). xs ++ ys) (each limb.below) (places-under l each limbs)

-- the pages of the places are those of the tree, in their order
pub places-pages : (l : ℕ) (t : Tree l) → map (λ (place : Place). place.page) (places_of l t) ≡ pages_of l t
places-pages zero t = refl
places-pages (suc l) t = ap (λ (ns : List ℕ). t.page ∷ ns) (places-under l (places-pages l) t.limbs)
