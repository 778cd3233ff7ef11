-- Branches: the boxes and the first entries of what is under them, and a branch alone.
use Rattle.std.proofs.Common.{◌≡◌, ℕ, List, [], ◌∷◌, ◌++◌, refl, sym, ap, subst, ◌∙◌, arith, append-nil}
use Rattle.std.specs.Prelude.{IsSome, Option, Some, None}
use Rattle.std.specs.List.{AllByRecursion}
use Rattle.bptree_node.specs.declared.rows.Entry.{Entry}
use Rattle.bptree_node.specs.declared.rows.Branch.{Branch}
use Rattle.bptree_node.specs.Summaries.{HasCorners, summary_of}
use Rattle.bptree_node.specs.Trees.{HasFirst}
use Rattle.bptree_edit.specs.declared.part.Part.{Part}
use Rattle.bptree_edit.specs.NodesAt.{times, list_under, pages_under, list_under_all, pages_under_all, IsBranchOf, AreChildren}
use Rattle.bptree_edit.specs.Parts.{HasFirstBranch, branch_of, IsPartOf}
use Rattle.bptree_edit.proofs.Summing.{AreJoined, joined_parts, summary-append, summary-made}
use Rattle.bptree_edit.proofs.Under.{list_all-cons, list_all-none, times_all-cons, times_all-none, children-first, children-others}

-- ---- one branch

pub single_list : (pages : ℕ → List ℕ) (l : ℕ) (c : Branch) → list_under_all pages l (c ∷ []) ≡ list_under pages l c.child
single_list pages l c = list_all-cons pages l c [] ∙ ap (λ (xs : List Entry). list_under pages l c.child ++ xs) (list_all-none pages l) ∙ append-nil (list_under pages l c.child)

pub single_times : (m : ℕ) (pages : ℕ → List ℕ) (l : ℕ) (c : Branch) → times m (pages_under_all pages l (c ∷ [])) ≡ times m (pages_under pages l c.child)
single_times m pages l c = omega (arith, times_all-cons m pages l c [], times_all-none m pages l)

pub part_branch : {S : Type 0} (joined : S → S → S) (entry_box : Entry → Option S) (keys : S → ℕ × ℕ) (pages : ℕ → List ℕ) (l : ℕ) (part : Part S)
    → IsPartOf joined entry_box keys pages l part → IsBranchOf (HasCorners joined entry_box keys) pages l (branch_of keys part)
part_branch joined entry_box keys pages l part is =
    record { filled = is.filled; first = is.first; corners = record { summary = part.summary; is = is.is; corners = refl } }

-- ---- summaries

module _ {S : Type 0} (joined : S → S → S) (entry_box : Entry → Option S) (branch_box : ℕ → ℕ → Option S) (keys : S → ℕ × ℕ) (is_made : S → Type 0)
    (entry_made : (e : Entry) (s : S) → entry_box e ≡ Some s → is_made s) (back : (s : S) (low high : ℕ) → is_made s → keys s ≡ (low, high) → branch_box low high ≡ Some s)
    (laws : AreJoined joined is_made) where
  abbrev pub corners : List Entry → ℕ → ℕ → Type 0
  corners = HasCorners joined entry_box keys

  abbrev pub under_branch : Branch → Option S
  under_branch b = branch_box b.low b.high

  -- a branch's box is the summary of what is under it
  pub box-of : (entries : List Entry) (low high : ℕ) → (has : corners entries low high) → branch_box low high ≡ Some has.summary
  box-of entries low high has = back has.summary low high (summary-made joined entry_box is_made entry_made laws entries has.summary has.is) has.corners

  some_is : {A : Type 0} (o : Option A) (a : A) → o ≡ Some a → IsSome o
  some_is (Some x) a is = refl
  some_is None a is = cc

  module _ (pages : ℕ → List ℕ) (l : ℕ) where
    -- branches have boxes
    pub boxes-some : (bs : List Branch) → AreChildren corners pages l bs → AllByRecursion (λ (b : Branch). IsSome (branch_box b.low b.high)) bs
    boxes-some [] are = tt
    boxes-some (b ∷ bs) are =
        let has = (children-first corners pages l b bs are).0.corners in
        (some_is (branch_box b.low b.high) has.summary (box-of (list_under pages l b.child) b.low b.high has), boxes-some bs (children-others corners pages l b bs are))

    -- what the branches' boxes join to is the summary of all under them
    pub summary-under : (bs : List Branch) (s : S) → AreChildren corners pages l bs → summary_of joined under_branch bs ≡ Some s → summary_of joined entry_box (list_under_all pages l bs) ≡ Some s
    summary-under [] s are is = absurd (cc)
    summary-under (b ∷ []) s are is =
        let has = (children-first corners pages l b [] are).0.corners in
        ap (summary_of joined entry_box) (list_all-cons pages l b [] ∙ ap (λ (xs : List Entry). list_under pages l b.child ++ xs) (list_all-none pages l) ∙ append-nil (list_under pages l b.child))
        ∙ has.is ∙ sym (box-of (list_under pages l b.child) b.low b.high has) ∙ is
    summary-under (b ∷ c ∷ cs) s are is =
        let has = (children-first corners pages l b (c ∷ cs) are).0.corners in
        let parts = joined_parts joined (under_branch b) (summary_of joined under_branch (c ∷ cs)) s is in
        let own : summary_of joined entry_box (list_under pages l b.child) ≡ Some parts.0 = has.is ∙ sym (box-of (list_under pages l b.child) b.low b.high has) ∙ parts.1.1.0 in
        ap (summary_of joined entry_box) (list_all-cons pages l b (c ∷ cs))
        ∙ summary-append joined entry_box is_made entry_made laws (list_under pages l b.child) (list_under_all pages l (c ∷ cs)) parts.0 parts.1.0 own
        (summary-under (c ∷ cs) parts.1.0 (children-others corners pages l b (c ∷ cs) are) parts.1.1.1)
        ∙ ap (λ (a : S). Some a) (sym parts.1.1.2)

    first_of : (key id : ℕ) (xs ys : List Entry) → HasFirst key id xs → HasFirst key id (xs ++ ys)
    first_of key id [] ys first = absurd first
    first_of key id (x ∷ xs) ys first = first

    -- the first key and id of the branches are those of all under them
    pub first-under : (key id : ℕ) (bs : List Branch) → AreChildren corners pages l bs → HasFirstBranch key id bs → HasFirst key id (list_under_all pages l bs)
    first-under key id [] are first = absurd first
    first-under key id (b ∷ bs) are first =
        let own = (children-first corners pages l b bs are).0.first in
        subst (HasFirst key id) (sym (list_all-cons pages l b bs))
        (first_of key id (list_under pages l b.child) (list_under_all pages l bs)
        (subst (λ (i : ℕ). HasFirst key i (list_under pages l b.child)) first.1 (subst (λ (k : ℕ). HasFirst k b.id (list_under pages l b.child)) first.0 own)))
