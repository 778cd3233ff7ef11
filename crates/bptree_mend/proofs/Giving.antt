-- A page that is written while another one is given back.
use Rattle.std.proofs.Common.{◌≡◌, ℕ, ◌≤◌, Bool, List, ◌∷◌, length, ap, ◌∙◌, arith}
use Rattle.std.specs.List.Sorted.{IsPermutation}
use Rattle.std.proofs.lemmas.List.Sorted.{length_permutation}
use Rattle.bptree_node.specs.Nodes.{Node, node_in}
use Rattle.bptree_edit.specs.declared.part.Part.{Part}
use Rattle.bptree_edit.specs.NodesAt.{times}
use Rattle.bptree_edit.specs.Steps.{PagesGrow, IsWritten}
use Rattle.bptree_mend.specs.Mending.{PagesShrink, AreJoined}
use Rattle.bptree_edit.proofs.Counts.{times-permutation, times-cons}

-- a page is put, and then one is given back
pub put-given : {P : Type 0} {is_known : P → Bool} {has in_pool : P → ℕ → Bool} {free : P → List ℕ} {is_open : P → Bool} {put_pages : P → List ℕ} {calm : P → P → Type 0}
    (old mid new : P) (n : ℕ) → ((old mid new : P) → calm old mid → calm mid new → calm old new)
    → PagesGrow is_known has in_pool free is_open put_pages calm 0 1 old mid → free mid ≡ free old → IsPermutation (free new) (n ∷ free mid) → is_known new ≡ is_known mid
    → (has new ≡ has mid) × (in_pool new ≡ in_pool mid) → (is_open new ≡ is_open mid) × (put_pages new ≡ put_pages mid) → calm mid new
    → PagesShrink is_known has in_pool free is_open put_pages calm 1 2 old new
put-given {free = free} old mid new n chains one same given told map change calmly = record {
  change = record {
    told = told ∙ one.change.told;
    map = map.0 ∙ one.change.map;
    pool = map.1 ∙ one.change.pool;
    change = change.0 ∙ one.change.change;
    calmly = chains old mid new one.change.calmly calmly;
  };
  given = omega (arith, length_permutation (free new) (n ∷ free mid) given, ap length same);
  more = λ m. omega (arith, times-permutation m (free new) (n ∷ free mid) given, times-cons m n (free mid), ap (times m) same);
  put = omega (arith, one.put, ap length change.1);
}

-- all rows stand on the page that is put
pub joined-given : {A S : Type 0} (node_of : List A → Node) (is_part : ℕ → List A → Part S → Type 0) (most left right : ℕ) (rows : List A) (old mid new : ℕ → List ℕ)
    (old_free mid_free new_free : List ℕ) (part : Part S) → length rows ≤ most → is_part left rows part → IsWritten left (node_of rows) old mid → mid_free ≡ old_free → new ≡ mid
    → IsPermutation new_free (right ∷ mid_free) → AreJoined node_of is_part most left right rows old new old_free new_free part
joined-given node_of is_part most left right rows old mid new old_free mid_free new_free part few is written same pages given = record {
  few = few;
  is = is;
  written = record {
    here = ap (λ (at : ℕ → List ℕ). node_in (at left)) pages ∙ written.here;
    others = λ m other. ap (λ (at : ℕ → List ℕ). at m) pages ∙ written.others m other;
  };
  given = λ m. times-permutation m new_free (right ∷ mid_free) given ∙ ap (λ (free : List ℕ). times m (right ∷ free)) same;
}
