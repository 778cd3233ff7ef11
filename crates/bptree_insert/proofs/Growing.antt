-- An entry put under a branch, under a node's branches, and under the node.
use Rattle.std.proofs.Common.{◌≡◌, ℕ, List, [], ◌∷◌, ◌++◌, sym, ap, ap₂, subst, ◌∙◌, arith}
use Rattle.std.specs.Prelude.{Option, Some, Ok}
use Rattle.bptree_node.specs.declared.rows.Entry.{Entry}
use Rattle.bptree_node.specs.declared.rows.Branch.{Branch}
use Rattle.bptree_node.specs.Summaries.{HasCorners, summary_of}
use Rattle.bptree_node.specs.Trees.{HasFirst}
use Rattle.bptree_insert.specs.declared.grown.Boxed.{Boxed}
use Rattle.bptree_edit.specs.declared.part.Part.{Part}
use Rattle.bptree_insert.specs.declared.grown.Grown.{Grown}
use Rattle.bptree_insert.specs.declared.grown.Grown.TheVariants.{Same, Whole, Split}
use Rattle.bptree_edit.specs.Changes.{HaveChanged}
use Rattle.bptree_edit.proofs.Branches.{box-of, single_list, single_times, part_branch}
use Rattle.bptree_insert.specs.Rows.{IsPlaced}
use Rattle.bptree_edit.specs.NodesAt.{times, list_under, pages_under, list_under_all, pages_under_all, IsBranchOf}
use Rattle.bptree_edit.specs.Parts.{branch_of}
use Rattle.bptree_insert.specs.Steps.{widened_by, IsWidened, Regrows, IsGrown, IsSameAbove, IsSplit, Grows}
use Rattle.bptree_edit.proofs.Summing.{AreJoined, summary-with}
use Rattle.bptree_edit.proofs.Counts.{times-append}
use Rattle.bptree_edit.proofs.Under.{list_all-cons, times_all-cons, children-cons, children-none}
use Rattle.bptree_insert.proofs.Placing.{placed-first}

-- some branches stand for others: the entry is under them
abbrev pub HaveGrown : (List Entry → ℕ → ℕ → Type 0) → Entry → (old new : ℕ → List ℕ) → (old_free new_free : List ℕ) → ℕ → (were are : List Branch) → Type 0
HaveGrown are_corners e old new old_free new_free l were are = HaveChanged (IsPlaced e) are_corners old new old_free new_free l were are

module _ {S : Type 0} (joined : S → S → S) (entry_box : Entry → Option S) (branch_box : ℕ → ℕ → Option S) (keys : S → ℕ × ℕ) (is_made : S → Type 0)
    (entry_made : (e : Entry) (s : S) → entry_box e ≡ Some s → is_made s) (back : (s : S) (low high : ℕ) → is_made s → keys s ≡ (low, high) → branch_box low high ≡ Some s)
    (laws : AreJoined joined is_made) where
  module _ (e : Boxed S) (own : entry_box e.entry ≡ Some e.summary) (old new : ℕ → List ℕ) (old_free new_free : List ℕ) (l : ℕ) (b : Branch) where
    widened : (wide : Branch) → IsWidened joined branch_box keys e b wide → IsBranchOf (HasCorners joined entry_box keys) old l b → IsGrown joined entry_box keys e.entry old new old_free new_free l b.child
        → IsBranchOf (HasCorners joined entry_box keys) new l (record { key = wide.key; id = wide.id; child = b.child; low = wide.low; high = wide.high })
    widened wide is was grown =
        let placed = grown.grows.placed in
        let has = was.corners in
        let same : is.box ≡ has.summary = let one = is.is_box in let two = box-of joined entry_box branch_box keys is_made entry_made back laws (list_under old l b.child) b.low b.high has in cc in
        let old_is : summary_of joined entry_box (placed.before ++ placed.after) ≡ Some is.box = ap (summary_of joined entry_box) (sym placed.were) ∙ has.is ∙ ap (λ (s : S). Some s) (sym same) in
        let now : summary_of joined entry_box (list_under new l b.child) ≡ Some (joined is.box e.summary) =
        ap (summary_of joined entry_box) placed.are ∙ summary-with joined entry_box is_made entry_made laws placed.before placed.after e.entry is.box e.summary old_is own in
        record {
          filled = omega (arith, was.filled, grown.rows);
          first = subst (λ (id : ℕ). HasFirst wide.key id (list_under new l b.child)) (sym (ap (λ (c : Branch). c.id) is.is))
              (subst (λ (key : ℕ). HasFirst key (widened_by joined keys e b is.box).id (list_under new l b.child)) (sym (ap (λ (c : Branch). c.key) is.is))
              (placed-first e.entry b (list_under old l b.child) (list_under new l b.child) placed was.first));
          corners = record {
            summary = joined is.box e.summary;
            is = now;
            corners = ap₂ (λ (low high : ℕ). (low, high)) (sym (ap (λ (c : Branch). c.low) is.is)) (sym (ap (λ (c : Branch). c.high) is.is));
          };
        }

    pub grown-whole : (wide : Branch) → IsWidened joined branch_box keys e b wide → IsBranchOf (HasCorners joined entry_box keys) old l b → IsGrown joined entry_box keys e.entry old new old_free new_free l b.child
        → HaveGrown (HasCorners joined entry_box keys) e.entry old new old_free new_free l (b ∷ []) (wide ∷ [])
    grown-whole wide is was grown =
        let child : wide.child ≡ b.child = ap (λ (c : Branch). c.child) is.is in
        let renamed : record { key = wide.key; id = wide.id; child = b.child; low = wide.low; high = wide.high } ≡ wide =
        ap (λ (n : ℕ). record { key = wide.key; id = wide.id; child = n; low = wide.low; high = wide.high }) (sym child) in
        let there : Branch = record { key = wide.key; id = wide.id; child = b.child; low = wide.low; high = wide.high } in
        let placed = grown.grows.placed in
        subst (λ (c : Branch). HaveGrown (HasCorners joined entry_box keys) e.entry old new old_free new_free l (b ∷ []) (c ∷ [])) renamed
        (record {
          changes = record {
            placed = record { before = placed.before; after = placed.after; were = single_list old l b ∙ placed.were; are = single_list new l there ∙ placed.are; lower = placed.lower; upper = placed.upper };
            moved = λ m. omega (arith, grown.grows.moved m, single_times m old l b, single_times m new l there);
            outside = λ m none. grown.grows.outside m (omega (arith, none, single_times m new l there));
          };
          children = children-cons (HasCorners joined entry_box keys) new l there [] (widened wide is was grown, grown.nodes) (children-none (HasCorners joined entry_box keys) new l);
        })

    -- the branch serves as it is
    pub grown-same : IsBranchOf (HasCorners joined entry_box keys) old l b → IsSameAbove joined entry_box keys e.entry old new old_free new_free l b.child
        → HaveGrown (HasCorners joined entry_box keys) e.entry old new old_free new_free l (b ∷ []) (b ∷ [])
    grown-same was same =
        let placed = same.grown.grows.placed in
        let here : IsBranchOf (HasCorners joined entry_box keys) new l b = record {
          filled = omega (arith, was.filled, same.grown.rows);
          first = same.first b.key b.id was.first;
          corners = record { summary = was.corners.summary; is = same.summary ∙ was.corners.is; corners = was.corners.corners };
        } in
        record {
          changes = record {
            placed = record { before = placed.before; after = placed.after; were = single_list old l b ∙ placed.were; are = single_list new l b ∙ placed.are; lower = placed.lower; upper = placed.upper };
            moved = λ m. omega (arith, same.grown.grows.moved m, single_times m old l b, single_times m new l b);
            outside = λ m none. same.grown.grows.outside m (omega (arith, none, single_times m new l b));
          };
          children = children-cons (HasCorners joined entry_box keys) new l b [] (here, same.grown.nodes) (children-none (HasCorners joined entry_box keys) new l);
        }

    pub grown-split : (left right : Part S) → IsSplit joined entry_box keys e.entry old new old_free new_free l b.child left right
        → HaveGrown (HasCorners joined entry_box keys) e.entry old new old_free new_free l (b ∷ []) (branch_of keys left ∷ branch_of keys right ∷ [])
    grown-split left right split =
        let one = branch_of keys left in
        let two = branch_of keys right in
        let placed = split.grows.placed in
        let both : list_under_all new l (one ∷ two ∷ []) ≡ list_under new l left.page ++ list_under new l right.page =
        list_all-cons new l one (two ∷ []) ∙ ap (λ (xs : List Entry). list_under new l left.page ++ xs) (single_list new l two) in
        let pages : (m : ℕ) → times m (pages_under_all new l (one ∷ two ∷ [])) ≡ times m (pages_under new l left.page ++ pages_under new l right.page) =
        λ m. omega (arith, times_all-cons m new l one (two ∷ []), single_times m new l two, times-append m (pages_under new l left.page) (pages_under new l right.page)) in
        record {
          changes = record {
            placed = record { before = placed.before; after = placed.after; were = single_list old l b ∙ placed.were; are = both ∙ placed.are; lower = placed.lower; upper = placed.upper };
            moved = λ m. omega (arith, split.grows.moved m, single_times m old l b, pages m);
            outside = λ m none. split.grows.outside m (omega (arith, none, pages m));
          };
          children = children-cons (HasCorners joined entry_box keys) new l one (two ∷ []) (part_branch joined entry_box keys new l left split.first, split.first.nodes)
              (children-cons (HasCorners joined entry_box keys) new l two [] (part_branch joined entry_box keys new l right split.second, split.second.nodes) (children-none (HasCorners joined entry_box keys) new l));
        }

    -- whatever the node became
    pub regrown : (grown : Grown S) (mid : List Branch) → Regrows joined branch_box keys e b grown mid → IsBranchOf (HasCorners joined entry_box keys) old l b
        → Grows joined entry_box keys e.entry old new old_free new_free l b.child (Ok grown) → HaveGrown (HasCorners joined entry_box keys) e.entry old new old_free new_free l (b ∷ []) mid
    regrown Same mid is was same =
        subst (λ (bs : List Branch). HaveGrown (HasCorners joined entry_box keys) e.entry old new old_free new_free l (b ∷ []) bs) (sym is) (grown-same was same)
    regrown Whole mid is was grown =
        subst (λ (bs : List Branch). HaveGrown (HasCorners joined entry_box keys) e.entry old new old_free new_free l (b ∷ []) bs) (sym is.1.1) (grown-whole is.0 is.1.0 was grown)
    regrown (Split left right) mid is was split =
        subst (λ (bs : List Branch). HaveGrown (HasCorners joined entry_box keys) e.entry old new old_free new_free l (b ∷ []) bs) (sym is) (grown-split left right split)
