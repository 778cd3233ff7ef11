-- How many pages and how many entries trees have whose nodes have enough rows.
use Rattle.std.proofs.Common.{◌≡◌, ℕ, zero, suc, ◌+◌, ◌-◌, ◌*◌, ◌^◌, ◌≤◌, Bool, List, [], ◌∷◌, ◌++◌, length, sym, subst, arith}
use Rattle.std.specs.Prelude.{map}
use Rattle.std.specs.List.{flat_map, AllByRecursion}
use Rattle.std.proofs.Math.Nat.{mul-le-mul_right, pow-succ'}
use Rattle.std.proofs.lemmas.List.{length-append, length-map}
use Rattle.page_laws.specs.declared.root.Root.{Root}
use Rattle.bptree_node.specs.declared.rows.Branch.{Branch}
use Rattle.bptree_node.specs.declared.rows.Entry.{Entry}
use Rattle.bptree_node.specs.NodeLaws.{inner_counts}
use Rattle.bptree_node.specs.Trees.{Tree, Limb, tree_at, list_of, pages_of, AreNodes, AreFilled, AreFilledBelow, list_at, pages_at, IsSound, IsSoundAt, IsBPlusTree}

abbrev pub pages_below : (l : ℕ) → List (Limb (Tree l)) → List ℕ
pages_below l limbs = flat_map (λ (limb : Limb (Tree l)). pages_of l limb.below) limbs

abbrev pub list_below : (l : ℕ) → List (Limb (Tree l)) → List Entry
list_below l limbs = flat_map (λ (limb : Limb (Tree l)). list_of l limb.below) limbs

few-below : (l : ℕ) → ((t : Tree l) → AreFilled l t → 15 * length (pages_of l t) + 15 ≤ 2 * length (list_of l t)) → (limbs : List (Limb (Tree l)))
    → AllByRecursion (λ (limb : Limb (Tree l)). AreFilled l limb.below) limbs
    → 15 * length (pages_below l limbs) + 15 * length limbs ≤ 2 * length (list_below l limbs)
few-below l each [] filled = omega arith
few-below l each (limb ∷ limbs) filled =
    omega (
      arith,
      length-append (pages_of l limb.below) (pages_below l limbs),
      length-append (list_of l limb.below) (list_below l limbs),
      each limb.below filled.0,
      few-below l each limbs filled.1,
    )

-- of a node that isn't the root
few-filled : (l : ℕ) (t : Tree l) → AreFilled l t → 15 * length (pages_of l t) + 15 ≤ 2 * length (list_of l t)
few-filled zero t filled = omega (arith, filled)
few-filled (suc l) t filled = omega (arith, filled.0, few-below l (few-filled l) t.limbs filled.1)

-- of the root
few-whole : (l : ℕ) (t : Tree l) → AreFilledBelow l t → 15 * length (pages_of l t) ≤ 2 * length (list_of l t) + 15
few-whole zero t filled = omega arith
few-whole (suc l) t filled = omega (arith, few-below l (few-filled l) t.limbs filled)

pub few-pages : (pages : ℕ → List ℕ) (is_live : ℕ → Bool) (root : Root) → IsBPlusTree pages is_live root
    → 15 * length (pages_at pages root) ≤ 2 * length (list_at pages root) + 15
few-pages pages is_live root is = of_height root.height is.sound
  where
    of_height : (height : ℕ) → IsSoundAt pages height root.page
        → 15 * length (pages_at pages (record { page = root.page; height = height })) ≤ 2 * length (list_at pages (record { page = root.page; height = height })) + 15
    of_height zero sound = omega arith
    of_height (suc l) sound = few-whole l (tree_at pages l root.page) sound.filled

many-below : (l least : ℕ) → ((t : Tree l) → AreFilled l t → least ≤ length (list_of l t)) → (limbs : List (Limb (Tree l)))
    → AllByRecursion (λ (limb : Limb (Tree l)). AreFilled l limb.below) limbs → length limbs * least ≤ length (list_below l limbs)
many-below l least each [] filled = omega arith
many-below l least each (limb ∷ limbs) filled =
    omega (arith, length-append (list_of l limb.below) (list_below l limbs), each limb.below filled.0, many-below l least each limbs filled.1)

many-filled : (l : ℕ) (t : Tree l) → AreFilled l t → 15 * 7 ^ l ≤ length (list_of l t)
many-filled zero t filled = omega (arith, filled)
many-filled (suc l) t filled =
    let least = 15 * 7 ^ l in
    let enough : 7 * least ≤ length t.limbs * least = mul-le-mul_right least filled.0 in
    omega (arith, enough, many-below l least (many-filled l) t.limbs filled.1, pow-succ' 7 l)

-- an inner node has two branches at least
two-limbs : (pages : ℕ → List ℕ) (l : ℕ) (t : Tree (suc l)) → AreNodes pages (suc l) t → 2 ≤ length t.limbs
two-limbs pages l t nodes =
    let branches = map (λ (limb : Limb (Tree l)). limb.branch) t.limbs in
    omega (arith, (inner_counts (pages t.page) branches nodes.0).0, length-map t.limbs (λ (limb : Limb (Tree l)). limb.branch))

pub many-entries : (pages : ℕ → List ℕ) (is_live : ℕ → Bool) (root : Root) → IsBPlusTree pages is_live root → 2 ≤ root.height
    → 30 * 7 ^ (root.height - 2) ≤ length (list_at pages root)
many-entries pages is_live root is = of_height root.height is.sound
  where
    of_height : (height : ℕ) → IsSoundAt pages height root.page → 2 ≤ height
        → 30 * 7 ^ (height - 2) ≤ length (list_at pages (record { page = root.page; height = height }))
    of_height zero sound high = omega (arith, high)
    of_height (suc zero) sound high = omega (arith, high)
    of_height (suc (suc l)) sound high =
        let least = 15 * 7 ^ l in
        let t = tree_at pages (suc l) root.page in
        let enough : 2 * least ≤ length t.limbs * least = mul-le-mul_right least (two-limbs pages l t sound.nodes) in
        let level : suc (suc l) - 2 ≡ l = omega arith in
        let many : 30 * 7 ^ l ≤ length (list_of (suc l) t) = omega (arith, enough, many-below l least (many-filled l) t.limbs sound.filled) in
        subst (λ (k : ℕ). 30 * 7 ^ k ≤ length (list_of (suc l) t)) (sym level) many
