-- Steps of a change one after the other: what goes on, and what is written.
use Rattle.std.proofs.Common.{◌≡◌, ℕ, ◌+◌, ◌≤◌, Bool, List, ◌∷◌, length, sym, ap, ◌∙◌, arith}
use Rattle.std.specs.Prelude.{IsTrue}
use Rattle.std.specs.List.Sorted.{IsPermutation}
use Rattle.std.proofs.lemmas.List.Sorted.{length_permutation}
use Rattle.page_laws.specs.Pages.{is_live}
use Rattle.bptree_node.specs.Nodes.{Node, node_in}
use Rattle.bptree_edit.specs.NodesAt.{times}
use Rattle.bptree_edit.specs.Steps.{PagesGrow, IsWritten}
use Rattle.bptree_insert.specs.Steps.{AreWritten, IsJoined}
use Rattle.bptree_edit.proofs.Counts.{times-permutation, times-cons, taken_other}

module _ {P : Type 0} {is_known : P → Bool} {has in_pool : P → ℕ → Bool} {free : P → List ℕ} {is_open : P → Bool} {put_pages : P → List ℕ} {calm : P → P → Type 0} where
  -- one step after another
  pub grow-grow : {taken put more_taken more_put : ℕ} {old mid new : P} → ((old mid new : P) → calm old mid → calm mid new → calm old new)
      → PagesGrow is_known has in_pool free is_open put_pages calm taken put old mid → PagesGrow is_known has in_pool free is_open put_pages calm more_taken more_put mid new
      → (all_taken all_put : ℕ) → taken + more_taken ≤ all_taken → put + more_put ≤ all_put
      → PagesGrow is_known has in_pool free is_open put_pages calm all_taken all_put old new
  grow-grow {old = old} {mid = mid} {new = new} chains one two all_taken all_put enough_taken enough_put = record {
    change = record {
      told = two.change.told ∙ one.change.told;
      map = two.change.map ∙ one.change.map;
      pool = two.change.pool ∙ one.change.pool;
      change = two.change.change ∙ one.change.change;
      calmly = chains old mid new one.change.calmly two.change.calmly;
    };
    taken = omega (arith, one.taken, two.taken, enough_taken);
    fewer = λ n. omega (arith, one.fewer n, two.fewer n);
    put = omega (arith, one.put, two.put, enough_put);
  }

  -- a page is taken
  pub taken-grow : (old new : P) (n : ℕ) → IsPermutation (free old) (n ∷ free new) → is_known new ≡ is_known old → (has new ≡ has old) × (in_pool new ≡ in_pool old)
      → (is_open new ≡ is_open old) × (put_pages new ≡ put_pages old) → calm old new → PagesGrow is_known has in_pool free is_open put_pages calm 1 0 old new
  taken-grow old new n taken told map change calmly = record {
    change = record { told = told; map = map.0; pool = map.1; change = change.0; calmly = calmly };
    taken = omega (arith, length_permutation (free old) (n ∷ free new) taken);
    fewer = λ m. omega (arith, times-permutation m (free old) (n ∷ free new) taken, times-cons m n (free new));
    put = omega (arith, ap length change.1);
  }

-- a page that was taken and another one are written
pub written-two : (in_pool : ℕ → Bool) (n q : ℕ) (node other : Node) (start old mid new : ℕ → List ℕ) (free less less_still new_free : List ℕ) → old ≡ start
    → IsWritten n node old mid → IsWritten q other mid new → IsPermutation free (q ∷ less) → less_still ≡ less → new_free ≡ less_still → IsTrue (is_live in_pool free n)
    → AreWritten n node q other start new free new_free
written-two in_pool n q node other start old mid new free less less_still new_free same one two taken here there live =
    let differ : n ≡ q → ⊥ = taken_other in_pool free less q n taken live in
    record {
      here = ap node_in (two.others n differ) ∙ one.here;
      there = two.here;
      others = λ m not_n not_q. two.others m not_q ∙ one.others m not_n ∙ ap (λ (pages : ℕ → List ℕ). pages m) same;
      was_free = λ m. times-permutation m free (q ∷ less) taken ∙ ap (λ (numbers : List ℕ). times m (q ∷ numbers)) (sym here) ∙ ap (λ (numbers : List ℕ). times m (q ∷ numbers)) (sym there);
    }

-- a page that was taken is written
pub written-taken : (q : ℕ) (node : Node) (start old new : ℕ → List ℕ) (free less new_free : List ℕ) → old ≡ start → IsWritten q node old new → IsPermutation free (q ∷ less) → new_free ≡ less
    → IsJoined q node start new free new_free
written-taken q node start old new free less new_free same written taken here = record {
  written = record { here = written.here; others = λ m other. written.others m other ∙ ap (λ (pages : ℕ → List ℕ). pages m) same };
  was_free = λ m. times-permutation m free (q ∷ less) taken ∙ ap (λ (numbers : List ℕ). times m (q ∷ numbers)) (sym here);
}
