-- Leaves that are written under an inner node: one, or what two neighbours became.
use Rattle.std.proofs.Common.{◌≡◌, ℕ, ◌+◌, ◌-◌, ◌≤◌, List, [], ◌∷◌, ◌++◌, length, take, drop, sym, ap, ap₂, subst, ◌∙◌, arith}
use Rattle.std.specs.Prelude.{Option, Some, Ok}
use Rattle.std.proofs.lemmas.List.{take-append-drop, length-take-le, length-drop}
use Rattle.bptree_node.specs.declared.layout.TheConstants.{LEAST_ENTRIES, MOST_ENTRIES}
use Rattle.bptree_node.specs.declared.rows.Entry.{Entry}
use Rattle.bptree_node.specs.declared.rows.Branch.{Branch}
use Rattle.bptree_node.specs.Nodes.{Node, Leaf, node_in}
use Rattle.bptree_node.specs.Summaries.{HasCorners, summary_of}
use Rattle.bptree_node.specs.Trees.{HasFirst}
use Rattle.bptree_edit.specs.declared.part.Part.{Part}
use Rattle.bptree_edit.specs.NodesAt.{times, rows_in, list_under_all, pages_under, pages_under_all, IsBranchOf, AreNodesUnder, AreChildren}
use Rattle.bptree_edit.specs.Parts.{IsLeafPart, IsPartOf, branch_of}
use Rattle.bptree_edit.proofs.Branches.{single_list, single_times, part_branch}
use Rattle.bptree_edit.proofs.Changing.{one-none}
use Rattle.bptree_edit.proofs.Counts.{one_if, times-cons, times-none}
use Rattle.bptree_edit.proofs.Under.{list-leaf, pages-leaf, of-leaf, list_all-cons, times_all-cons, children-cons, children-none}
use Rattle.bptree_mend.specs.declared.mended.Mended.{Mended}
use Rattle.bptree_mend.specs.declared.mended.Mended.TheVariants.{Joined, Evened}
use Rattle.bptree_mend.specs.Mending.{Mends}
use Rattle.bptree_rebalance.specs.Settling.{branches_of_mended}

-- what some branches stand for: the pages are moved, the others stay, the entries are these, and each branch is sound
pub record StandsFor (are_corners : List Entry → ℕ → ℕ → Type 0) (old new : ℕ → List ℕ) (old_free new_free : List ℕ) (l : ℕ) (mid : List Branch) (group : List ℕ) (entries : List Entry) : Type 0 where
  pub moved : (m : ℕ) → times m old_free + times m group ≡ times m new_free + times m (pages_under_all new l mid)
  pub outside : (m : ℕ) → times m (pages_under_all new l mid) ≡ 0 → new m ≡ old m
  pub list : list_under_all new l mid ≡ entries
  pub children : AreChildren are_corners new l mid

pub times-one : (m p : ℕ) → times m (p ∷ []) ≡ one_if p m
times-one m p = omega (arith, times-cons m p [], times-none m)

pub times-two : (m p q : ℕ) → times m (p ∷ q ∷ []) ≡ one_if p m + one_if q m
times-two m p q = omega (arith, times-cons m p (q ∷ []), times-one m q)

module _ {S : Type 0} (joined : S → S → S) (entry_box : Entry → Option S) (keys : S → ℕ × ℕ) (new : ℕ → List ℕ) where
  -- a leaf's branch
  module _ (p : ℕ) (es : List Entry) (part : Part S) (node : node_in (new p) ≡ Some (Leaf es)) (is : IsLeafPart joined entry_box p es part) where
    here : node_in (new part.page) ≡ Some (Leaf es)
    here = ap (λ (k : ℕ). node_in (new k)) is.place ∙ node

    pub leaf-branch : LEAST_ENTRIES ≤ length es → IsBranchOf (HasCorners joined entry_box keys) new 0 (branch_of keys part) × AreNodesUnder (HasCorners joined entry_box keys) new 0 part.page
    leaf-branch enough =
        let nodes = of-leaf (HasCorners joined entry_box keys) new part.page es here in
        let whole : IsPartOf joined entry_box keys new 0 part = record {
          nodes = nodes;
          filled = subst (λ (o : Option Node). LEAST_ENTRIES ≤ rows_in o) (sym here) enough;
          first = subst (HasFirst part.key part.id) (sym (list-leaf new part.page es here)) is.first;
          is = ap (summary_of joined entry_box) (list-leaf new part.page es here) ∙ is.is;
        } in
        (part_branch joined entry_box keys new 0 part whole, nodes)

    pub leaf-times : (m : ℕ) → times m (pages_under new 0 part.page) ≡ one_if p m
    leaf-times m = ap (times m) (pages-leaf new part.page) ∙ times-one m part.page ∙ ap (λ (k : ℕ). one_if k m) is.place

    pub alone-list : list_under_all new 0 (branch_of keys part ∷ []) ≡ es
    alone-list = single_list new 0 (branch_of keys part) ∙ list-leaf new part.page es here

    pub alone-times : (m : ℕ) → times m (pages_under_all new 0 (branch_of keys part ∷ [])) ≡ one_if p m
    alone-times m = single_times m new 0 (branch_of keys part) ∙ leaf-times m

    pub alone-children : LEAST_ENTRIES ≤ length es → AreChildren (HasCorners joined entry_box keys) new 0 (branch_of keys part ∷ [])
    alone-children enough =
        children-cons (HasCorners joined entry_box keys) new 0 (branch_of keys part) [] (leaf-branch enough) (children-none (HasCorners joined entry_box keys) new 0)

    pub behind-list : (bs : List Branch) (fs : List Entry) → list_under_all new 0 bs ≡ fs → list_under_all new 0 (branch_of keys part ∷ bs) ≡ es ++ fs
    behind-list bs fs rest = list_all-cons new 0 (branch_of keys part) bs ∙ ap₂ (λ (xs ys : List Entry). xs ++ ys) (list-leaf new part.page es here) rest

  -- two neighbours
  pub mended-stands : (old : ℕ → List ℕ) (old_free new_free : List ℕ) (p q : ℕ) (rows : List Entry) (mended : Mended S) → LEAST_ENTRIES ≤ length rows → (p ≡ q → ⊥)
      → Mends Leaf (IsLeafPart joined entry_box) LEAST_ENTRIES MOST_ENTRIES p q rows old new old_free new_free (Ok mended)
      → StandsFor (HasCorners joined entry_box keys) old new old_free new_free 0 (branches_of_mended keys mended) (p ∷ q ∷ []) rows
  mended-stands old old_free new_free p q rows (Joined part) enough differ is = record {
    moved = λ m. omega (arith, times-two m p q, is.given m, times-cons m q old_free, alone-times p rows part is.written.here is.is m);
    outside = λ m none. is.written.others m (one-none p m (omega (arith, none, alone-times p rows part is.written.here is.is m)));
    list = alone-list p rows part is.written.here is.is;
    children = alone-children p rows part is.written.here is.is enough;
  }
  mended-stands old old_free new_free p q rows (Evened one two) enough differ is =
      let w = is.written differ in
      let xs = take is.at rows in
      let ys = drop is.at rows in
      let many : length xs ≡ is.at = length-take-le is.at rows (omega (arith, is.second_enough)) in
      let rest : length ys ≡ length rows - is.at = length-drop is.at rows in
      let b = branch_of keys one in
      let c = branch_of keys two in
      let counts : (m : ℕ) → times m (pages_under_all new 0 (b ∷ c ∷ [])) ≡ one_if p m + one_if q m =
      λ m. omega (arith, times_all-cons m new 0 b (c ∷ []), leaf-times p xs one w.here is.first m, alone-times q ys two w.there is.second m) in
      record {
        moved = λ m. omega (arith, times-two m p q, ap (times m) is.free, counts m);
        outside = λ m none. w.others m (one-none p m (omega (arith, none, counts m))) (one-none q m (omega (arith, none, counts m)));
        list = behind-list p xs one w.here is.first (c ∷ []) ys (alone-list q ys two w.there is.second) ∙ take-append-drop is.at rows;
        children = children-cons (HasCorners joined entry_box keys) new 0 b (c ∷ []) (leaf-branch p xs one w.here is.first (omega (arith, many, is.first_enough)))
            (alone-children q ys two w.there is.second (omega (arith, rest, is.second_enough)));
      }

pub some-mended : {S : Type 0} (keys : S → ℕ × ℕ) (mended : Mended S) → 1 ≤ length (branches_of_mended keys mended)
some-mended keys (Joined part) = omega arith
some-mended keys (Evened one two) = omega arith
