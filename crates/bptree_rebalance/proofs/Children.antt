-- The page under a branch at a place, as it is read from a table, and what was done there.
use Rattle.std.proofs.Common.{◌≡◌, ℕ, ◌+◌, ◌<◌, Bool, List, ◌∷◌, length, get_or, ap, subst, ◌∙◌, arith}
use Rattle.std.specs.Prelude.{Option, Ok}
use Rattle.std.specs.List.{replace_range}
use Rattle.std.specs.List.Sorted.{IsPermutation}
use Rattle.std.proofs.lemmas.List.{get_or_default}
use Rattle.std.proofs.lemmas.List.Sorted.{length_permutation}
use Rattle.bptree_node.specs.declared.layout.TheConstants.{LEAST_ENTRIES, MOST_ENTRIES}
use Rattle.bptree_node.specs.declared.rows.Entry.{Entry}
use Rattle.bptree_node.specs.declared.rows.Branch.{Branch}
use Rattle.bptree_node.specs.Nodes.{Leaf}
use Rattle.bptree_edit.specs.Parts.{IsLeafPart}
use Rattle.bptree_edit.proofs.Counts.{times-permutation, times-cons}
use Rattle.bptree_mend.specs.declared.mended.Mended.{Mended}
use Rattle.bptree_mend.specs.Mending.{PagesShrink, Mends}
use Rattle.bptree_rebalance.specs.Settling.{child_at, branches_of_mended, HasMended}

pub child-is : (ws items : List Branch) (i : ℕ) (d : Branch) → ws ≡ items → i < length items → (get_or ws i d).child ≡ child_at items i
child-is ws items i d same below =
    ap (λ (bs : List Branch). (get_or bs i d).child) same ∙ ap (λ (b : Branch). b.child) (get_or_default items i d (record { key = 0; id = 0; child = 0; low = 0; high = 0 }) below)

pub mended-at : {S : Type 0} (joined : S → S → S) (entry_box : Entry → Option S) (keys : S → ℕ × ℕ) (items are : List Branch) (left : ℕ) (rows : List Entry) (old new : ℕ → List ℕ)
    (old_free new_free : List ℕ) (mended : Mended S) (p q : ℕ) → p ≡ child_at items left → q ≡ child_at items (left + 1)
    → Mends (λ (es : List Entry). Leaf es) (IsLeafPart joined entry_box) LEAST_ENTRIES MOST_ENTRIES p q rows old new old_free new_free (Ok mended)
    → are ≡ replace_range items left (left + 2) (branches_of_mended keys mended)
    → HasMended (λ (es : List Entry). Leaf es) (IsLeafPart joined entry_box) LEAST_ENTRIES MOST_ENTRIES keys left items are rows old new old_free new_free
mended-at joined entry_box keys items are left rows old new old_free new_free mended p q one two mends is = record {
  mended = mended;
  mends = subst (λ (k : ℕ). Mends (λ (es : List Entry). Leaf es) (IsLeafPart joined entry_box) LEAST_ENTRIES MOST_ENTRIES k (child_at items (left + 1)) rows old new old_free new_free (Ok mended)) one
      (subst (λ (k : ℕ). Mends (λ (es : List Entry). Leaf es) (IsLeafPart joined entry_box) LEAST_ENTRIES MOST_ENTRIES p k rows old new old_free new_free (Ok mended)) two mends);
  branches = is;
}

-- a page is given back
pub given-shrinks : {P : Type 0} {is_known : P → Bool} {has in_pool : P → ℕ → Bool} {free : P → List ℕ} {is_open : P → Bool} {put_pages : P → List ℕ} {calm : P → P → Type 0}
    (old new : P) (n : ℕ) → IsPermutation (free new) (n ∷ free old) → is_known new ≡ is_known old
    → (has new ≡ has old) × (in_pool new ≡ in_pool old) → (is_open new ≡ is_open old) × (put_pages new ≡ put_pages old) → calm old new
    → PagesShrink is_known has in_pool free is_open put_pages calm 1 0 old new
given-shrinks {free = free} old new n given told map change calmly = record {
  change = record { told = told; map = map.0; pool = map.1; change = change.0; calmly = calmly };
  given = omega (arith, length_permutation (free new) (n ∷ free old) given);
  more = λ m. omega (arith, times-permutation m (free new) (n ∷ free old) given, times-cons m n (free old));
  put = omega (arith, ap length change.1);
}

-- the same of other pages and rows that are the same
pub mended-over : {S : Type 0} (joined : S → S → S) (entry_box : Entry → Option S) (keys : S → ℕ × ℕ) (items are : List Branch) (left : ℕ) (rows rows' : List Entry) (old old' new : ℕ → List ℕ)
    (free free' new_free : List ℕ) → rows ≡ rows' → old ≡ old' → free ≡ free'
    → HasMended (λ (es : List Entry). Leaf es) (IsLeafPart joined entry_box) LEAST_ENTRIES MOST_ENTRIES keys left items are rows old new free new_free
    → HasMended (λ (es : List Entry). Leaf es) (IsLeafPart joined entry_box) LEAST_ENTRIES MOST_ENTRIES keys left items are rows' old' new free' new_free
mended-over joined entry_box keys items are left rows rows' old old' new free free' new_free one two three has =
    subst (λ (es : List Entry). HasMended (λ (es : List Entry). Leaf es) (IsLeafPart joined entry_box) LEAST_ENTRIES MOST_ENTRIES keys left items are es old' new free' new_free) one
    (subst (λ (p : ℕ → List ℕ). HasMended (λ (es : List Entry). Leaf es) (IsLeafPart joined entry_box) LEAST_ENTRIES MOST_ENTRIES keys left items are rows p new free' new_free) two
    (subst (λ (f : List ℕ). HasMended (λ (es : List Entry). Leaf es) (IsLeafPart joined entry_box) LEAST_ENTRIES MOST_ENTRIES keys left items are rows old new f new_free) three has))
