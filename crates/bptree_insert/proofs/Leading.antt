-- The way to an entry's place through an inner node, from its rows.
use Rattle.std.proofs.Common.{◌≡◌, ℕ, ◌+◌, ◌<◌, true, false, List, [], ◌∷◌, ◌++◌, length, take, drop, get_or, refl, sym, ap, subst, ◌∙◌, append_assoc}
use Rattle.std.specs.Prelude.{Option, Some, Result, Ok, Err}
use Rattle.std.specs.List.{replace_range}
use Rattle.std.proofs.lemmas.Bool.{false≢true}
use Rattle.std.proofs.lemmas.List.{get_or_default}
use Rattle.bptree_node.specs.declared.rows.Branch.{Branch}
use Rattle.bptree_node.specs.Nodes.{Node, Leaf, Inner, node_in, is_leaf, row_count, branches_of}
use Rattle.bptree_node.specs.Trees.{node_branches}
use Rattle.page_laws.specs.declared.errors.TreeError.{TreeError}
use Rattle.bptree_edit.specs.declared.part.Part.{Part}
use Rattle.bptree_edit.specs.Parts.{before_branch, branch_of}
use Rattle.bptree_edit.proofs.Reaching.{around}
use Rattle.bptree_insert.specs.declared.grown.Boxed.{Boxed}
use Rattle.bptree_insert.specs.declared.grown.Grown.{Grown}
use Rattle.bptree_insert.specs.declared.grown.Grown.TheVariants.{Same, Whole, Split}
use Rattle.bptree_insert.specs.declared.way.Way.{Way}
use Rattle.bptree_insert.specs.Ways.{branches_on, IsBranchAt, LeadsUnder}
use Rattle.bptree_insert.specs.Steps.{StoresInner, Restores}

pub leads : (page : List ℕ) (node : Node) (key id : ℕ) (way : Way) → node_in page ≡ Some node → is_leaf node ≡ false → way.at < row_count node
    → way.branch ≡ get_or (branches_of node) way.at way.branch → ((d : Branch) → 0 < way.at → before_branch key id (get_or (branches_of node) way.at d) ≡ false)
    → ((d : Branch) → way.at + 1 < row_count node → before_branch key id (get_or (branches_of node) (way.at + 1) d) ≡ true) → LeadsUnder page key id way
leads page (Leaf entries) key id way is inner below here late early = absurd (false≢true (sym inner))
leads page (Inner bs) key id way is inner below here late early =
    let same : bs ≡ branches_on page = sym (ap node_branches is) in
    record {
      branch = record {
        node = is ∙ ap (λ (cs : List Branch). Some (Inner cs)) same;
        below = subst (λ (cs : List Branch). way.at < length cs) same below;
        is = λ d. ap (λ (cs : List Branch). get_or cs way.at d) (sym same) ∙ get_or_default bs way.at d way.branch below ∙ sym here;
      };
      late = λ some. ap (before_branch key id) here ∙ late way.branch some;
      early = λ d inside.
          ap (λ (cs : List Branch). before_branch key id (get_or cs (way.at + 1) d)) (sym same) ∙ early d (subst (λ (cs : List Branch). way.at + 1 < length cs) (sym same) inside);
    }

-- the branch in its own place
pub unchanged : (page : List ℕ) (way : Way) → IsBranchAt page way → replace_range (branches_on page) way.at (way.at + 1) (way.branch ∷ []) ≡ branches_on page
unchanged page way is =
    let bs = branches_on page in
    append_assoc (take way.at bs) (way.branch ∷ []) (drop (way.at + 1) bs)
    ∙ ap (λ (b : Branch). take way.at bs ++ (b ∷ [] ++ drop (way.at + 1) bs)) (sym (is.is way.branch))
    ∙ sym (around bs way.at way.branch is.below)

-- what was written of the branches of two nodes
pub restores-split : {S : Type 0} (joined : S → S → S) (branch_box : ℕ → ℕ → Option S) (keys : S → ℕ × ℕ) (e : Boxed S) (n : ℕ) (page : List ℕ) (way : Way) (left right : Part S)
    (old new : ℕ → List ℕ) (old_free new_free : List ℕ) (result : Result (Grown S) TreeError)
    → StoresInner joined branch_box n (replace_range (branches_on page) way.at (way.at + 1) (branch_of keys left ∷ branch_of keys right ∷ [])) old new old_free new_free result
    → Restores joined branch_box keys e n page way (Split left right) old new old_free new_free result
restores-split joined branch_box keys e n page way left right old new old_free new_free (Ok Same) stores = absurd stores
restores-split joined branch_box keys e n page way left right old new old_free new_free (Ok Whole) stores =
    record { mid = branch_of keys left ∷ branch_of keys right ∷ []; regrows = refl; stores = stores }
restores-split joined branch_box keys e n page way left right old new old_free new_free (Ok (Split low high)) stores =
    record { mid = branch_of keys left ∷ branch_of keys right ∷ []; regrows = refl; stores = stores }
restores-split joined branch_box keys e n page way left right old new old_free new_free (Err why) stores = tt
