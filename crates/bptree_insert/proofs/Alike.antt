-- The same branches over other pages: what is under them begins with the same key and id and has the same summary.
use Rattle.std.proofs.Common.{◌≡◌, ℕ, List, [], ◌∷◌, refl, sym, ap, subst, ◌∙◌, arith}
use Rattle.std.specs.Prelude.{Option, Some, None}
use Rattle.bptree_node.specs.declared.rows.Entry.{Entry}
use Rattle.bptree_node.specs.declared.rows.Branch.{Branch}
use Rattle.bptree_node.specs.Summaries.{HasCorners, summary_of}
use Rattle.bptree_node.specs.Trees.{HasFirst}
use Rattle.bptree_edit.specs.NodesAt.{list_under_all, AreChildren}
use Rattle.bptree_edit.proofs.Summing.{AreJoined, summary-some}
use Rattle.bptree_edit.proofs.Under.{list_all-none}
use Rattle.bptree_edit.proofs.Branches.{boxes-some, first-under, summary-under}

one-first : (key id other_key other_id : ℕ) (es : List Entry) → HasFirst key id es → HasFirst other_key other_id es → (key ≡ other_key) × (id ≡ other_id)
one-first key id other_key other_id [] one two = absurd one
one-first key id other_key other_id (e ∷ es) one two = (sym one.0 ∙ two.0, sym one.1 ∙ two.1)

module _ {S : Type 0} (joined : S → S → S) (entry_box : Entry → Option S) (branch_box : ℕ → ℕ → Option S) (keys : S → ℕ × ℕ) (is_made : S → Type 0)
    (entry_made : (e : Entry) (s : S) → entry_box e ≡ Some s → is_made s) (back : (s : S) (low high : ℕ) → is_made s → keys s ≡ (low, high) → branch_box low high ≡ Some s)
    (laws : AreJoined joined is_made) (old new : ℕ → List ℕ) (l : ℕ) where
  pub summary-alike : (bs : List Branch) → AreChildren (HasCorners joined entry_box keys) old l bs → AreChildren (HasCorners joined entry_box keys) new l bs
      → summary_of joined entry_box (list_under_all new l bs) ≡ summary_of joined entry_box (list_under_all old l bs)
  summary-alike [] were are = ap (summary_of joined entry_box) (list_all-none new l ∙ sym (list_all-none old l))
  summary-alike (b ∷ bs) were are = by (summary_of joined (λ (c : Branch). branch_box c.low c.high) (b ∷ bs)) refl
    where
      by : (o : Option S) → summary_of joined (λ (c : Branch). branch_box c.low c.high) (b ∷ bs) ≡ o
          → summary_of joined entry_box (list_under_all new l (b ∷ bs)) ≡ summary_of joined entry_box (list_under_all old l (b ∷ bs))
      by (Some s) is =
          summary-under joined entry_box branch_box keys is_made entry_made back laws new l (b ∷ bs) s are is
          ∙ sym (summary-under joined entry_box branch_box keys is_made entry_made back laws old l (b ∷ bs) s were is)
      by None is =
          absurd (summary-some joined (λ (c : Branch). branch_box c.low c.high) (b ∷ bs) (omega arith) (boxes-some joined entry_box branch_box keys is_made entry_made back laws old l (b ∷ bs) were) is)

  pub first-alike : (key id : ℕ) (bs : List Branch) → AreChildren (HasCorners joined entry_box keys) old l bs → AreChildren (HasCorners joined entry_box keys) new l bs
      → HasFirst key id (list_under_all old l bs) → HasFirst key id (list_under_all new l bs)
  first-alike key id [] were are first = absurd (subst (HasFirst key id) (list_all-none old l) first)
  first-alike key id (b ∷ bs) were are first =
      let own = first-under joined entry_box branch_box keys is_made entry_made back laws old l b.key b.id (b ∷ bs) were (refl, refl) in
      first-under joined entry_box branch_box keys is_made entry_made back laws new l key id (b ∷ bs) are (one-first b.key b.id key id (list_under_all old l (b ∷ bs)) own first)
