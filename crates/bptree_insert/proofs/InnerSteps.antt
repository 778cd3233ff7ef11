-- An inner node under which an entry is put: the child, what the child needs, and what the node becomes.
use Rattle.std.proofs.Common.{◌≡◌, ℕ, suc, ◌+◌, ◌-◌, ◌<◌, ◌≤◌, Bool, true, false, List, [], ◌∷◌, ◌++◌, length, take, drop, get_or, sym, ap, subst, ◌∙◌, arith, append_assoc, length-append}
use Rattle.std.specs.Prelude.{IsTrue, IsSome, Option, Some, None, Result, Ok}
use Rattle.std.specs.List.{AllByRecursion, replace_range}
use Rattle.std.proofs.lemmas.List.{length-take-le, length-drop}
use Rattle.page_laws.specs.declared.errors.TreeError.{TreeError}
use Rattle.page_laws.specs.Pages.{is_live}
use Rattle.bptree_node.specs.declared.rows.Entry.{Entry}
use Rattle.bptree_node.specs.declared.rows.Branch.{Branch}
use Rattle.bptree_node.specs.Nodes.{Inner, node_in}
use Rattle.bptree_node.specs.Summaries.{HasCorners}
use Rattle.bptree_node.specs.Lists.{all-front, all-back}
use Rattle.bptree_node.specs.Trees.{is_entry, IsRising}
use Rattle.bptree_node.specs.EntryLaws.{rising-front, rising-back}
use Rattle.bptree_insert.specs.declared.grown.Boxed.{Boxed}
use Rattle.bptree_insert.specs.declared.grown.Grown.{Grown}
use Rattle.bptree_insert.specs.declared.grown.Grown.TheVariants.{Same, Whole, Split}
use Rattle.bptree_edit.specs.Parts.{before_branch}
use Rattle.bptree_edit.specs.NodesAt.{times, list_under, pages_under, list_under_all, pages_under_all, AreChildren, IsBranchOf, AreNodesUnder}
use Rattle.bptree_insert.specs.Steps.{HaveNot, CanTake, Regrows, StoresChanged, Grows}
use Rattle.bptree_edit.proofs.Summing.{AreJoined}
use Rattle.bptree_edit.proofs.Counts.{one_if, times-cons, own_live}
use Rattle.bptree_edit.proofs.Under.{list-inner, pages-inner, own_page, children-of, inner-of}
use Rattle.bptree_insert.proofs.Growing.{HaveGrown, regrown}
use Rattle.bptree_insert.proofs.Placing.{placed-within}
use Rattle.bptree_insert.specs.Rows.{IsPlaced}
use Rattle.bptree_edit.proofs.Branches.{box-of, boxes-some}
use Rattle.bptree_edit.proofs.Changing.{changed-among}
use Rattle.bptree_edit.proofs.Reaching.{around, list_around, times_around, child-at, children-till, children-after, front-before, back-behind}
use Rattle.bptree_insert.proofs.Storing.{inner-grows}

have-part : {S : Type 0} (entry_box : Entry → Option S) (e : Entry) (xs ys zs : List Entry) → HaveNot entry_box e (xs ++ (ys ++ zs)) → HaveNot entry_box e ys
have-part entry_box e xs ys zs have = record {
  rising = rising-front ys zs (rising-back xs (ys ++ zs) have.rising);
  absent = all-front (λ (f : Entry). is_entry e.key e.id f ≡ false) ys zs (all-back (λ (f : Entry). is_entry e.key e.id f ≡ false) xs (ys ++ zs) have.absent);
  boxes = all-front (λ (f : Entry). IsSome (entry_box f)) ys zs (all-back (λ (f : Entry). IsSome (entry_box f)) xs (ys ++ zs) have.boxes);
}

-- the same of other pages that are the same
pub can-moved : {S : Type 0} (are_corners : List Entry → ℕ → ℕ → Type 0) (entry_box : Entry → Option S) (e : Entry) (l n : ℕ) (in_pool in_pool' : ℕ → Bool) (pages pages' : ℕ → List ℕ)
    (free free' : List ℕ) → in_pool' ≡ in_pool → pages' ≡ pages → free' ≡ free → CanTake are_corners entry_box in_pool e pages free l n → CanTake are_corners entry_box in_pool' e pages' free' l n
can-moved are_corners entry_box e l n in_pool in_pool' pages pages' free free' one two three can =
    subst (λ (p : ℕ → Bool). CanTake are_corners entry_box p e pages' free' l n) (sym one)
    (subst (λ (p : ℕ → List ℕ). CanTake are_corners entry_box in_pool e p free' l n) (sym two)
    (subst (λ (f : List ℕ). CanTake are_corners entry_box in_pool e pages f l n) (sym three) can))

pub grows-moved : {S : Type 0} (joined : S → S → S) (entry_box : Entry → Option S) (keys : S → ℕ × ℕ) (e : Entry) (old old' new : ℕ → List ℕ) (free free' new_free : List ℕ) (l n : ℕ)
    (result : Result (Grown S) TreeError) → old ≡ old' → free ≡ free' → Grows joined entry_box keys e old new free new_free l n result → Grows joined entry_box keys e old' new free' new_free l n result
grows-moved joined entry_box keys e old old' new free free' new_free l n result one two grows =
    subst (λ (p : ℕ → List ℕ). Grows joined entry_box keys e p new free' new_free l n result) one
    (subst (λ (f : List ℕ). Grows joined entry_box keys e old new f new_free l n result) two grows)

-- ---- the branches that stand for one

pub regrows-count : {S : Type 0} (joined : S → S → S) (branch_box : ℕ → ℕ → Option S) (keys : S → ℕ × ℕ) (e : Boxed S) (b : Branch) (grown : Grown S) (mid : List Branch)
    → Regrows joined branch_box keys e b grown mid → 1 ≤ length mid
regrows-count joined branch_box keys e b Same mid is = omega (arith, ap length is)
regrows-count joined branch_box keys e b Whole mid is = omega (arith, ap length is.1.1)
regrows-count joined branch_box keys e b (Split left right) mid is = omega (arith, ap length is)

pub replaced-count : (bs mid : List Branch) (at : ℕ) → at < length bs → 1 ≤ length mid → length bs ≤ length (replace_range bs at (at + 1) mid)
replaced-count bs mid at below some =
    omega (arith, length-append (take at bs ++ mid) (drop (at + 1) bs), length-append (take at bs) mid, length-take-le at bs (omega (arith, below)), length-drop (at + 1) bs, some, below)

module _ {S : Type 0} (joined : S → S → S) (entry_box : Entry → Option S) (branch_box : ℕ → ℕ → Option S) (keys : S → ℕ × ℕ) (is_made : S → Type 0)
    (entry_made : (e : Entry) (s : S) → entry_box e ≡ Some s → is_made s) (back_of : (s : S) (low high : ℕ) → is_made s → keys s ≡ (low, high) → branch_box low high ≡ Some s)
    (laws : AreJoined joined is_made) (in_pool : ℕ → Bool) (e : Boxed S) (pages : ℕ → List ℕ) (free : List ℕ) (level n : ℕ) (above : level ≡ 0 → ⊥)
    (can : CanTake (HasCorners joined entry_box keys) entry_box in_pool e.entry pages free level n) (page : List ℕ) (is_page : page ≡ pages n) where
  can_here : CanTake (HasCorners joined entry_box keys) entry_box in_pool e.entry pages free (suc (level - 1)) n
  can_here = subst (λ k. CanTake (HasCorners joined entry_box keys) entry_box in_pool e.entry pages free k n) (omega (arith, above)) can

  -- the page is an inner node
  pub inner-there : ((bs : List Branch) → node_in page ≡ Some (Inner bs) → ⊥) → ⊥
  inner-there never = let is = inner-of (HasCorners joined entry_box keys) pages (level - 1) n can_here.nodes in never is.0 (ap node_in is_page ∙ is.1)

  module _ (bs : List Branch) (node : node_in page ≡ Some (Inner bs)) (at : ℕ) (below : at < length bs) (d : Branch) where
    here : node_in (pages n) ≡ Some (Inner bs)
    here = ap node_in (sym is_page) ∙ node

    children : AreChildren (HasCorners joined entry_box keys) pages (level - 1) bs
    children = children-of (HasCorners joined entry_box keys) pages (level - 1) n bs here can_here.nodes

    list_parts : list_under pages (suc (level - 1)) n
        ≡ list_under_all pages (level - 1) (take at bs) ++ (list_under pages (level - 1) (get_or bs at d).child ++ list_under_all pages (level - 1) (drop (at + 1) bs))
    list_parts = list-inner pages (level - 1) n bs here ∙ list_around pages (level - 1) bs at d below

    have : HaveNot entry_box e.entry (list_under_all pages (level - 1) (take at bs)
        ++ (list_under pages (level - 1) (get_or bs at d).child ++ list_under_all pages (level - 1) (drop (at + 1) bs)))
    have = subst (HaveNot entry_box e.entry) list_parts can_here.entries

    times_here : (m : ℕ) → times m (pages_under pages (suc (level - 1)) n) ≡ one_if n m + times m (pages_under_all pages (level - 1) bs)
    times_here m = ap (times m) (pages-inner pages (level - 1) n bs here) ∙ times-cons m n (pages_under_all pages (level - 1) bs)

    times_child : (m : ℕ) → times m (pages_under pages (level - 1) (get_or bs at d).child) ≤ times m (pages_under pages (suc (level - 1)) n)
    times_child m = omega (arith, times_here m, times_around pages (level - 1) bs at d below m)

    child : IsBranchOf (HasCorners joined entry_box keys) pages (level - 1) (get_or bs at d) × AreNodesUnder (HasCorners joined entry_box keys) pages (level - 1) (get_or bs at d).child
    child = child-at pages (level - 1) bs at d below (HasCorners joined entry_box keys) children

    -- the entry may be put under the child
    pub child-can : CanTake (HasCorners joined entry_box keys) entry_box in_pool e.entry pages free (level - 1) (get_or bs at d).child
    child-can = record {
      nodes = child.1;
      own = record {
        once = λ m. omega (arith, can_here.own.once m, times_child m);
        pool = λ m some. can_here.own.pool m (omega (arith, times_child m, some));
      };
      entries = have-part entry_box e.entry (list_under_all pages (level - 1) (take at bs)) (list_under pages (level - 1) (get_or bs at d).child)
          (list_under_all pages (level - 1) (drop (at + 1) bs)) have;
    }

    -- the child is live
    pub child-live : IsTrue (is_live in_pool free (get_or bs at d).child)
    child-live = own_live in_pool free (pages_under pages (level - 1) (get_or bs at d).child) (get_or bs at d).child child-can.own (own_page pages (level - 1) (get_or bs at d).child)

    -- the child's branch has a box
    pub child-box : branch_box (get_or bs at d).low (get_or bs at d).high ≡ None → ⊥
    child-box none =
        let b = get_or bs at d in
        let has = child.0.corners in
        let some = box-of joined entry_box branch_box keys is_made entry_made back_of laws (list_under pages (level - 1) b.child) b.low b.high has in
        cc

    module _ (late : 0 < at → before_branch e.entry.key e.entry.id (get_or bs at d) ≡ false) (early : (d : Branch) → at + 1 < length bs → before_branch e.entry.key e.entry.id (get_or bs (at + 1) d) ≡ true) where
      module _ (own : entry_box e.entry ≡ Some e.summary) (mid_pages : ℕ → List ℕ) (mid_free : List ℕ) (grown : Grown S)
          (grows : Grows joined entry_box keys e.entry pages mid_pages free mid_free (level - 1) (get_or bs at d).child (Ok grown)) (mid rows : List Branch)
          (regrows : Regrows joined branch_box keys e (get_or bs at d) grown mid) (is_rows : rows ≡ replace_range bs at (at + 1) mid) where
        regrouped : rows ≡ take at bs ++ (mid ++ drop (at + 1) bs)
        regrouped = is_rows ∙ append_assoc (take at bs) mid (drop (at + 1) bs)

        all_grown : HaveGrown (HasCorners joined entry_box keys) e.entry pages mid_pages free mid_free (level - 1) bs rows
        all_grown =
            let b = get_or bs at d in
            let one = regrown joined entry_box branch_box keys is_made entry_made back_of laws e own pages mid_pages free mid_free (level - 1) b grown mid regrows child.0 grows in
            let till = take at bs in
            let after = drop (at + 1) bs in
            let rising : IsRising (list_under_all pages (level - 1) bs) = subst IsRising (list-inner pages (level - 1) n bs here) can_here.entries.rising in
            let placed = placed-within e.entry (list_under_all pages (level - 1) till) (list_under_all pages (level - 1) (b ∷ [])) (list_under_all mid_pages (level - 1) mid)
            (list_under_all pages (level - 1) after) one.changes.placed
            (front-before joined entry_box branch_box keys is_made entry_made back_of laws e.entry.key e.entry.id pages (level - 1) bs at d below children rising late)
            (back-behind joined entry_box branch_box keys is_made entry_made back_of laws e.entry.key e.entry.id pages (level - 1) bs at d below children rising early) in
            let all = changed-among (IsPlaced e.entry) (HasCorners joined entry_box keys) pages mid_pages free mid_free (level - 1) till (b ∷ []) after mid one
            (λ m. omega (arith, can_here.own.once m, times_here m, ap (λ (cs : List Branch). times m (pages_under_all pages (level - 1) cs)) (around bs at d below)))
            (children-till pages (level - 1) bs at d below (HasCorners joined entry_box keys) children)
            (children-after pages (level - 1) bs at d below (HasCorners joined entry_box keys) children) placed in
            subst (λ (cs : List Branch). HaveGrown (HasCorners joined entry_box keys) e.entry pages mid_pages free mid_free (level - 1) bs cs) (sym regrouped)
            (subst (λ (cs : List Branch). HaveGrown (HasCorners joined entry_box keys) e.entry pages mid_pages free mid_free (level - 1) cs (till ++ (mid ++ after)))
            (sym (around bs at d below)) all)

        -- the node's new branches have boxes
        pub rows-boxes : AllByRecursion (λ (b : Branch). IsSome (branch_box b.low b.high)) rows
        rows-boxes = boxes-some joined entry_box branch_box keys is_made entry_made back_of laws mid_pages (level - 1) rows all_grown.children

        -- the node has the entry under it
        pub node-grows : (new : ℕ → List ℕ) (new_free : List ℕ) (now : Grown S) → StoresChanged joined branch_box n bs rows mid_pages new mid_free new_free now
            → Grows joined entry_box keys e.entry pages new free new_free level n (Ok now)
        node-grows new new_free now stores =
            subst (λ (k : ℕ). Grows joined entry_box keys e.entry pages new free new_free k n (Ok now)) (omega (arith, above))
            (inner-grows joined entry_box branch_box keys is_made entry_made back_of laws e.entry pages mid_pages new free mid_free new_free (level - 1) n bs rows here can_here.own.once all_grown
            (omega (arith, ap length is_rows, replaced-count bs mid at below (regrows-count joined branch_box keys e (get_or bs at d) grown mid regrows))) children now stores)
