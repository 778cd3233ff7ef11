-- The children that are put ahead.
use Rattle.std.proofs.Common.{◌≡◌, ℕ, suc, ◌+◌, ◌-◌, ◌≤◌, ◌<◌, Bool, true, false, cond, List, [], ◌∷◌, length, drop, arith}
use Rattle.std.specs.Prelude.{map, filter, Contains}
use Rattle.std.specs.List.{AllByRecursion}
use Rattle.std.proofs.lemmas.Bool.{false≢true}
use Rattle.std.proofs.lemmas.List.{length-drop}
use Rattle.bptree_node.specs.declared.layout.TheConstants.{MOST_BRANCHES}
use Rattle.bptree_node.specs.declared.rows.Branch.{Branch}
use Rattle.bptree_node.specs.Nodes.{Node, Leaf, Inner, is_leaf, row_count, branches_of, IsCount}
use Rattle.bptree_walk.specs.declared.ahead.Ahead.{Ahead}
use Rattle.bptree_walk.specs.Visits.{child_ahead, followed, ArePut, GoesDeeper}
use Rattle.bptree_walk.proofs.Lists.{first_among, among_rest}

chosen_few : (level parent : ℕ) (chosen : Bool) (b : Branch) (bs : List Branch) (n : ℕ) → length (map (child_ahead level parent) bs) ≤ n
    → length (map (child_ahead level parent) (cond chosen (b ∷ bs) bs)) ≤ suc n
chosen_few level parent true b bs n few = omega (arith, few)
chosen_few level parent false b bs n few = omega (arith, few)

chosen_all : (level parent : ℕ) (P : Ahead → Type 0) (chosen : Bool) (b : Branch) (bs : List Branch) → P (child_ahead level parent b)
    → AllByRecursion P (map (child_ahead level parent) bs) → AllByRecursion P (map (child_ahead level parent) (cond chosen (b ∷ bs) bs))
chosen_all level parent P true b bs here all = (here, all)
chosen_all level parent P false b bs here all = all

module _ (meets : ℕ → ℕ → Bool) (level parent : ℕ) where
  pub followed_few : (bs : List Branch) → length (followed meets level parent bs) ≤ length bs
  followed_few [] = omega arith
  followed_few (b ∷ bs) = chosen_few level parent (meets b.low b.high) b (filter (λ (c : Branch). meets c.low c.high) bs) (length bs) (followed_few bs)

  pub followed_levels : (above : ℕ) → level + 1 ≡ above → (bs : List Branch) → AllByRecursion (λ (a : Ahead). a.level + 1 ≡ above) (followed meets level parent bs)
  followed_levels above is [] = tt
  followed_levels above is (b ∷ bs) =
      chosen_all level parent (λ (a : Ahead). a.level + 1 ≡ above) (meets b.low b.high) b (filter (λ (c : Branch). meets c.low c.high) bs) is (followed_levels above is bs)

  -- what holds of the children holds of those that are followed
  pub followed_all : (P : Ahead → Type 0) (bs : List Branch) → ((b : Branch) → Contains bs b → P (child_ahead level parent b)) → AllByRecursion P (followed meets level parent bs)
  followed_all P [] each = tt
  followed_all P (b ∷ bs) each =
      chosen_all level parent P (meets b.low b.high) b (filter (λ (c : Branch). meets c.low c.high) bs) (each b (first_among b bs))
      (followed_all P bs (λ c among. each c (among_rest c b bs among)))

-- an inner node has few branches
branches_few : (node : Node) (n : ℕ) → is_leaf node ≡ false → n ≡ row_count node → IsCount n node → length (branches_of node) ≤ MOST_BRANCHES
branches_few (Leaf entries) n inner is count = absurd (false≢true (cc))
branches_few (Inner branches) n inner is count = omega (arith, is, count.1)

-- what was put ahead of some of them goes one level down
pub put_deeper : (live : ℕ → Bool) (meets : ℕ → ℕ → Bool) (level parent i n : ℕ) (node : Node) (old new : List Ahead) → 0 < level → is_leaf node ≡ false → n ≡ row_count node → IsCount n node
    → ArePut live (followed meets (level - 1) parent (drop i (branches_of node))) old new → GoesDeeper level old new
put_deeper live meets level parent i n node old new some inner is count put =
    let bs : List Branch = drop i (branches_of node) in
    let few = followed_few meets (level - 1) parent bs in
    let all = branches_few node n inner is count in
    record {
      children = followed meets (level - 1) parent bs;
      items = put.items;
      few = omega (arith, few, all, length-drop i (branches_of node));
      levels = followed_levels meets (level - 1) parent level (omega arith) bs;
    }
