-- Rows put into the queue, one after another.
use Rattle.std.proofs.Common.{◌≡◌, inl, inr, ℕ, ◌+◌, ◌<◌, false, List, [], ◌∷◌, ◌++◌, length, map, take, refl, sym, ap, subst, ◌∙◌}
use Rattle.std.specs.Prelude.{IsTrue, IsPermutation}
use Rattle.std.specs.List.{slice_index_or}
use Rattle.std.proofs.lemmas.Bool.{false≢true}
use Rattle.std.proofs.lemmas.List.{map-append, take_more}
use Rattle.bptree_node.specs.Nodes.{Node, Leaf, Inner, is_leaf, entries_of, branches_of, row_count}
use Rattle.std.proofs.lemmas.List.Sorted.{IsPermutation-refl, IsPermutation-sym, IsPermutation-trans, IsPermutation-cons, IsPermutation-middle, IsPermutation-to_front}
use Rattle.near_search.specs.declared.queue.Waiting.{Waiting}
use Rattle.near_search.proofs.Lists.{all-append}
use Rattle.spb_defs.specs.Scans.{Rank}
use Rattle.shelf_tree.specs.Putting.{IsOffered, ArePutIn}

module _ {A : Type 0} (k : ℕ) (ranks : List Rank) (item : A → Waiting) (good : A → Type 0) where
  pub put-none : (old : List Waiting) → ArePutIn k ranks item good [] old old
  put-none old = record { put_in = []; left_out = []; parts = IsPermutation-refl []; added = IsPermutation-refl old; shut = tt; good_rows = tt }

  pub put-more : (rows : List A) (row : A) (old mid new : List Waiting) → ArePutIn k ranks item good rows old mid → good row → IsOffered k ranks (item row) mid new
      → ArePutIn k ranks item good (rows ++ row ∷ []) old new
  put-more rows row old mid new so_far is offered =
      let front : IsPermutation (map item (rows ++ row ∷ [])) (item row ∷ (so_far.put_in ++ so_far.left_out)) =
      subst (λ xs. IsPermutation xs (item row ∷ (so_far.put_in ++ so_far.left_out))) (sym (map-append item rows (row ∷ [])))
      (IsPermutation-trans _ _ _ (IsPermutation-to_front (map item rows) (item row)) (IsPermutation-cons (item row) _ _ so_far.parts)) in
      elim offered [
        | inl pruned ↦ record {
          put_in = so_far.put_in;
          left_out = item row ∷ so_far.left_out;
          parts = IsPermutation-trans _ _ _ front (IsPermutation-sym _ _ (IsPermutation-middle so_far.put_in (item row) so_far.left_out));
          added = subst (λ xs. IsPermutation (so_far.put_in ++ old) xs) (sym pruned.0) so_far.added;
          shut = (pruned.1, so_far.shut);
          good_rows = all-append good rows (row ∷ []) so_far.good_rows (is, tt);
        }
        | inr put ↦ record {
          put_in = item row ∷ so_far.put_in;
          left_out = so_far.left_out;
          parts = front;
          added = IsPermutation-trans _ _ _ (IsPermutation-cons (item row) _ _ so_far.added) put;
          shut = so_far.shut;
          good_rows = all-append good rows (row ∷ []) so_far.good_rows (is, tt);
        }
      ]

-- the next row of a list
pub take-row : {A : Type 0} (rows : List A) (i : ℕ) (row : A) → i < length rows → row ≡ slice_index_or rows i row → take i rows ++ row ∷ [] ≡ take (i + 1) rows
take-row rows i row within at = ap (λ r. take i rows ++ r ∷ []) at ∙ sym (take_more rows i row within)

-- how many rows a node has
pub leaf-count : (node : Node) → IsTrue (is_leaf node) → row_count node ≡ length (entries_of node)
leaf-count (Leaf entries) is = refl
leaf-count (Inner branches) is = absurd (false≢true is)

pub inner-count : (node : Node) → is_leaf node ≡ false → row_count node ≡ length (branches_of node)
inner-count (Leaf entries) is = absurd (false≢true (sym is))
inner-count (Inner branches) is = refl
