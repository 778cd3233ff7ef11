-- A root's page given back.
use Rattle.std.proofs.Common.{◌≡◌, ℕ, ◌+◌, Bool, List, [], ◌∷◌, length, get_or, refl, ap, arith}
use Rattle.std.specs.List.Sorted.{IsPermutation}
use Rattle.std.proofs.lemmas.List.Sorted.{length_permutation}
use Rattle.page_laws.specs.declared.root.Root.{Root}
use Rattle.bptree_node.specs.declared.rows.Entry.{Entry}
use Rattle.bptree_node.specs.declared.rows.Branch.{Branch}
use Rattle.bptree_edit.proofs.Counts.{times-permutation, times-cons}
use Rattle.bptree_mend.specs.Mending.{PagesShrink}
use Rattle.bptree_shrink.specs.Shrinking.{SettlesLeaf, SettlesInner}

pub given-shrinks : {P : Type 0} {is_known : P → Bool} {has in_pool : P → ℕ → Bool} {free : P → List ℕ} {is_open : P → Bool} {put_pages : P → List ℕ} {calm : P → P → Type 0}
    (old new : P) (n : ℕ) → IsPermutation (free new) (n ∷ free old) → is_known new ≡ is_known old
    → (has new ≡ has old) × (in_pool new ≡ in_pool old) → (is_open new ≡ is_open old) × (put_pages new ≡ put_pages old) → calm old new
    → PagesShrink is_known has in_pool free is_open put_pages calm 1 1 old new
given-shrinks {free = free} old new n given told map change calmly = record {
  change = record { told = told; map = map.0; pool = map.1; change = change.0; calmly = calmly };
  given = omega (arith, length_permutation (free new) (n ∷ free old) given);
  more = λ m. omega (arith, times-permutation m (free new) (n ∷ free old) given, times-cons m n (free old));
  put = omega (arith, ap length change.1);
}

pub leaf-gone : (root above : Root) (es : List Entry) (old new : ℕ → List ℕ) (old_free new_free : List ℕ) → length es ≡ 0 → above ≡ record { page = 0; height = 0 } → new ≡ old
    → IsPermutation new_free (root.page ∷ old_free) → SettlesLeaf root es old new old_free new_free above
leaf-gone root above [] old new old_free new_free none is same given = record {
  place = ap (λ (r : Root). r.page) is;
  lower = ap (λ (r : Root). r.height) is;
  contents = same;
  given = λ m. times-permutation m new_free (root.page ∷ old_free) given;
}
leaf-gone root above (e ∷ es) old new old_free new_free none is same given = absurd (omega (arith, none))

pub inner-gone : (root above : Root) (bs : List Branch) (d : Branch) (old new : ℕ → List ℕ) (old_free new_free : List ℕ) → length bs ≡ 1 → above.page ≡ (get_or bs 0 d).child
    → above.height + 1 ≡ root.height → new ≡ old → IsPermutation new_free (root.page ∷ old_free) → SettlesInner root bs old new old_free new_free above
inner-gone root above [] d old new old_free new_free one place lower same given = absurd (omega (arith, one))
inner-gone root above (b ∷ []) d old new old_free new_free one place lower same given =
    (lower, record { place = place; lower = refl; contents = same; given = λ m. times-permutation m new_free (root.page ∷ old_free) given })
inner-gone root above (b ∷ c ∷ cs) d old new old_free new_free one place lower same given = absurd (omega (arith, one))
