-- After an insertion: what is said of the new root.
use Rattle.std.proofs.Common.{◌≡◌, ℕ, suc, ◌+◌, ◌-◌, ◌*◌, ◌^◌, ◌<◌, ◌≤◌, Bool, List, [], ◌∷◌, length, sym, ap, subst, ◌∙◌, arith}
use Rattle.std.specs.Prelude.{IsTrue, Option, Some, None, Result, Ok, Err, IfOk, MatchResult}
use Rattle.page_laws.specs.Errors.{IsNotDamaged}
use Rattle.page_laws.specs.declared.errors.TreeError.{TreeError}
use Rattle.page_laws.specs.declared.root.Root.{Root}
use Rattle.page_laws.specs.Pages.{is_live, AreFree}
use Rattle.bptree_node.specs.declared.rows.Entry.{Entry}
use Rattle.bptree_node.specs.Nodes.{Leaf}
use Rattle.bptree_node.specs.Summaries.{HasCorners}
use Rattle.bptree_node.specs.Trees.{IsRising, IsTree, list_at, pages_at, at_root, list_of, pages_of, slot_of}
use Rattle.bptree_insert.specs.declared.grown.Boxed.{Boxed}
use Rattle.bptree_edit.specs.declared.part.Part.{Part}
use Rattle.bptree_insert.specs.declared.grown.Grown.TheVariants.{Whole, Split}
use Rattle.bptree_edit.specs.Changes.{IsWith, HaveBoxes, StaysOutside, AreFreeAfter, Changes}
use Rattle.bptree_edit.specs.NodesAt.{list_under, pages_under, AreNodesUnder, AreOwn}
use Rattle.bptree_insert.specs.Steps.{CanTake, IsJoined, IsRaised, Grows}
use Rattle.bptree_edit.proofs.Summing.{AreJoined}
use Rattle.bptree_edit.proofs.Counts.{own_live}
use Rattle.bptree_edit.proofs.Under.{own_page}
use Rattle.bptree_insert.specs.Rows.{IsPlaced}
use Rattle.bptree_insert.proofs.Placing.{placed-rises}
use Rattle.bptree_edit.proofs.Rooted.{own-of, list_at-under, pages_at-under, outside-after, free-after, tree-after}
use Rattle.bptree_insert.proofs.Rooted.{tree-can}
use Rattle.bptree_insert.proofs.RootSteps.{planted, planted-nodes, many, raised}

-- the new root's tree is the old one's with the entry in it
pub record IsInserted (are_corners : List Entry → ℕ → ℕ → Type 0) (in_pool : ℕ → Bool) (e : Entry) (old new : ℕ → List ℕ) (old_free new_free : List ℕ) (root above : Root) : Type 0 where
  pub list : IsWith e (list_at old root) (list_at new above)
  pub tree : IsTree are_corners new (is_live in_pool new_free) above
  pub outside : StaysOutside (pages_at old root) (pages_at new above) old new
  pub free : AreFreeAfter (pages_at old root) (pages_at new above) old_free new_free

inserted-at : (are_corners : List Entry → ℕ → ℕ → Type 0) (in_pool new_pool : ℕ → Bool) (e : Entry) (old new : ℕ → List ℕ) (old_free new_free : List ℕ) (root above : Root) (l : ℕ)
    → new_pool ≡ in_pool → above.height ≡ suc l → above.height ≤ 5 → AreOwn in_pool old_free (pages_at old root) → IsRising (list_at old root)
    → Changes (IsPlaced e) old new old_free new_free (pages_at old root) (pages_under new l above.page) (list_at old root) (list_under new l above.page)
    → AreNodesUnder are_corners new l above.page → IsInserted are_corners new_pool e old new old_free new_free root above
inserted-at are_corners in_pool new_pool e old new old_free new_free root above l pool is low own rising grows nodes =
    subst (λ (p : ℕ → Bool). IsInserted are_corners p e old new old_free new_free root above) (sym pool)
    (record {
      list = record {
        before = grows.placed.before;
        after = grows.placed.after;
        were = grows.placed.were;
        are = list_at-under new above l is ∙ grows.placed.are;
      };
      tree = tree-after (IsPlaced e) are_corners in_pool old new old_free new_free (pages_at old root) (list_at old root) above l is own grows low
          (placed-rises e (list_at old root) (list_under new l above.page) grows.placed rising) nodes;
      outside = outside-after (IsPlaced e) are_corners in_pool old new old_free new_free (pages_at old root) (list_at old root) above l is own grows;
      free = free-after (IsPlaced e) are_corners in_pool old new old_free new_free (pages_at old root) (list_at old root) above l is own grows;
    })

pub match-ok : {A E : Type 0} (P : A → Type 0) (Q : E → Type 0) (R : A → Type 0) (r : Result A E) → MatchResult r P Q → ((x : A) → P x → R x) → IfOk r R
match-ok P Q R (Ok x) is weaker = weaker x is
match-ok P Q R (Err why) is weaker = tt

pub match-never : {A : Type 0} (P : A → Type 0) (Q : TreeError → Type 0) (r : Result A TreeError) → MatchResult r P Q → ((why : TreeError) → Q why → ⊥) → IsNotDamaged r
match-never P Q (Ok x) is never = tt
match-never P Q (Err why) is never = absurd (never why is)

-- the root is live
pub root-live_of : {S : Type 0} (joined : S → S → S) (entry_box : Entry → Option S) (keys : S → ℕ × ℕ) (in_pool : ℕ → Bool) (pages : ℕ → List ℕ) (free : List ℕ) (root : Root)
    → AreFree in_pool free → IsTree (HasCorners joined entry_box keys) pages (is_live in_pool free) root → (root.height ≡ 0 → ⊥) → IsTrue (is_live in_pool free root.page)
root-live_of joined entry_box keys in_pool pages free root are tree above_none =
    let own = own-of in_pool free (pages_at pages root) are tree.tree.distinct tree.tree.live in
    let tall : root.height ≡ suc (root.height - 1) = omega (arith, above_none) in
    own_live in_pool free (pages_under pages (root.height - 1) root.page) root.page (subst (AreOwn in_pool free) (pages_at-under pages root (root.height - 1) tall) own)
    (own_page pages (root.height - 1) root.page)

module _ {S : Type 0} (joined : S → S → S) (entry_box : Entry → Option S) (branch_box : ℕ → ℕ → Option S) (keys : S → ℕ × ℕ) (is_made : S → Type 0)
    (entry_made : (e : Entry) (s : S) → entry_box e ≡ Some s → is_made s) (back_of : (s : S) (low high : ℕ) → is_made s → keys s ≡ (low, high) → branch_box low high ≡ Some s)
    (laws : AreJoined joined is_made) (in_pool : ℕ → Bool) (e : Boxed S) (own : entry_box e.entry ≡ Some e.summary) (start : ℕ → List ℕ) (start_free : List ℕ) (root : Root)
    (are : AreFree in_pool start_free) (tree : IsTree (HasCorners joined entry_box keys) start (is_live in_pool start_free) root) where
  all_own : AreOwn in_pool start_free (pages_at start root)
  all_own = own-of in_pool start_free (pages_at start root) are tree.tree.distinct tree.tree.live

  module _ (above_none : root.height ≡ 0 → ⊥) where
    tall : root.height ≡ suc (root.height - 1)
    tall = omega (arith, above_none)

    own_here : AreOwn in_pool start_free (pages_under start (root.height - 1) root.page)
    own_here = subst (AreOwn in_pool start_free) (pages_at-under start root (root.height - 1) tall) all_own

    pub root-can : HaveBoxes entry_box (list_at start root) → slot_of e.entry.key e.entry.id (list_at start root) ≡ None
        → CanTake (HasCorners joined entry_box keys) entry_box in_pool e.entry start start_free (root.height - 1) root.page
    root-can boxes absent = tree-can (HasCorners joined entry_box keys) entry_box in_pool e.entry start start_free root (root.height - 1) tall are tree boxes absent

    at_rooted : (new : ℕ → List ℕ) (new_free new_pages : List ℕ) (new_list : List Entry)
        → Changes (IsPlaced e.entry) start new start_free new_free (pages_under start (root.height - 1) root.page) new_pages (list_under start (root.height - 1) root.page) new_list
        → Changes (IsPlaced e.entry) start new start_free new_free (pages_at start root) new_pages (list_at start root) new_list
    at_rooted new new_free new_pages new_list grows =
        subst (λ (ns : List ℕ). Changes (IsPlaced e.entry) start new start_free new_free ns new_pages (list_at start root) new_list) (sym (pages_at-under start root (root.height - 1) tall))
        (subst (λ (es : List Entry). Changes (IsPlaced e.entry) start new start_free new_free (pages_under start (root.height - 1) root.page) new_pages es new_list)
        (sym (list_at-under start root (root.height - 1) tall)) grows)

    pub whole-inserted : (new_pool : ℕ → Bool) (new : ℕ → List ℕ) (new_free : List ℕ) → new_pool ≡ in_pool
        → Grows joined entry_box keys e.entry start new start_free new_free (root.height - 1) root.page (Ok Whole)
        → IsInserted (HasCorners joined entry_box keys) new_pool e.entry start new start_free new_free root root
    whole-inserted new_pool new new_free pool grown =
        inserted-at (HasCorners joined entry_box keys) in_pool new_pool e.entry start new start_free new_free root root (root.height - 1) pool tall tree.tree.height all_own tree.tree.rising
        (at_rooted new new_free (pages_under new (root.height - 1) root.page) (list_under new (root.height - 1) root.page) grown.grows) grown.nodes

    module _ (mid : ℕ → List ℕ) (mid_free : List ℕ) (left right : Part S)
        (split : Grows joined entry_box keys e.entry start mid start_free mid_free (root.height - 1) root.page (Ok (Split left right))) where
      pub raised-inserted : (new_pool : ℕ → Bool) (new : ℕ → List ℕ) (new_free : List ℕ) → new_pool ≡ in_pool → (above : Root)
          → IsRaised keys root left right mid new mid_free new_free above → IsInserted (HasCorners joined entry_box keys) new_pool e.entry start new start_free new_free root above
      raised-inserted new_pool new new_free pool above is =
          let up = raised joined entry_box branch_box keys is_made entry_made back_of laws in_pool e own start mid new start_free mid_free new_free (root.height - 1) root.page left right own_here split
          above.page is.joined in
          inserted-at (HasCorners joined entry_box keys) in_pool new_pool e.entry start new start_free new_free root above (suc (root.height - 1)) pool (omega (arith, is.height, tall))
          (omega (arith, is.height, is.low)) all_own tree.tree.rising
          (at_rooted new new_free (pages_under new (suc (root.height - 1)) above.page) (list_under new (suc (root.height - 1)) above.page) up.0) up.1

      -- a root at the greatest height isn't split
      pub never-raised : length (list_at start root) < 65536 → 5 ≤ root.height → ⊥
      never-raised small high =
          let count = many joined entry_box branch_box keys is_made entry_made back_of laws in_pool e own start mid mid start_free mid_free mid_free (root.height - 1) root.page left right own_here split in
          let level : root.height - 1 ≡ 4 = omega (arith, high, tree.tree.height) in
          let more : 30 * 7 ^ 4 ≤ length (list_under start (root.height - 1) root.page) + 1 =
          subst (λ (k : ℕ). 30 * 7 ^ k ≤ length (list_under start (root.height - 1) root.page) + 1) level count in
          omega (arith, more, small, ap length (list_at-under start root (root.height - 1) tall))

-- the first entry of an empty tree
pub plant-inserted : (are_corners : List Entry → ℕ → ℕ → Type 0) (in_pool new_pool : ℕ → Bool) (e : Entry) (old new : ℕ → List ℕ) (old_free new_free : List ℕ) (root above : Root)
    → new_pool ≡ in_pool → root.height ≡ 0 → AreFree in_pool old_free → IsTree are_corners old (is_live in_pool old_free) root → above.height ≡ 1
    → IsJoined above.page (Leaf (e ∷ [])) old new old_free new_free → IsInserted are_corners new_pool e old new old_free new_free root above
plant-inserted are_corners in_pool new_pool e old new old_free new_free root above pool none are tree height joined =
    let no_pages : pages_at old root ≡ [] = ap (λ (h : ℕ). at_root [] pages_of old h root.page) none in
    let no_list : list_at old root ≡ [] = ap (λ (h : ℕ). at_root [] list_of old h root.page) none in
    let grows = planted e old new old_free new_free above.page joined in
    inserted-at are_corners in_pool new_pool e old new old_free new_free root above 0 pool height (omega (arith, height))
    (own-of in_pool old_free (pages_at old root) are tree.tree.distinct tree.tree.live) tree.tree.rising
    (subst (λ (ns : List ℕ). Changes (IsPlaced e) old new old_free new_free ns (pages_under new 0 above.page) (list_at old root) (list_under new 0 above.page)) (sym no_pages)
    (subst (λ (es : List Entry). Changes (IsPlaced e) old new old_free new_free [] (pages_under new 0 above.page) es (list_under new 0 above.page)) (sym no_list) grows))
    (planted-nodes e old new old_free new_free above.page joined are_corners)
