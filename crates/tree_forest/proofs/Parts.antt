-- The pages of one tree among those of several.
use Rattle.std.proofs.Common.{◌≡◌, ℕ, zero, suc, ◌+◌, ◌≤◌, ◌<◌, List, [], ◌∷◌, ◌++◌, length, get_or, refl, ap, ap₂, arith}
use Rattle.std.specs.Prelude.{slice_set}
use Rattle.std.specs.List.{flat_map}
use Rattle.page_laws.specs.declared.root.Root.{Root}
use Rattle.bptree_edit.specs.NodesAt.{times}
use Rattle.bptree_edit.proofs.Counts.{times-append}
use Rattle.store_check.specs.Profile.{no_root}

pub one_part : (f : Root → List ℕ) (n : ℕ) (roots : List Root) (k : ℕ) → k < length roots → times n (f (get_or roots k no_root)) ≤ times n (flat_map f roots)
one_part f n [] k below = absurd (omega (arith, below))
one_part f n (r ∷ rs) zero below = omega (arith, times-append n (f r) (flat_map f rs))
one_part f n (r ∷ rs) (suc k) below = omega (arith, times-append n (f r) (flat_map f rs), one_part f n rs k (omega (arith, below)))

pub two_parts : (f : Root → List ℕ) (n : ℕ) (roots : List Root) (j k : ℕ) → j < length roots → k < length roots → (j ≡ k → ⊥)
    → times n (f (get_or roots j no_root)) + times n (f (get_or roots k no_root)) ≤ times n (flat_map f roots)
two_parts f n [] j k inside below other = absurd (omega (arith, below))
two_parts f n (r ∷ rs) zero zero inside below other = absurd (other refl)
two_parts f n (r ∷ rs) zero (suc k) inside below other = omega (arith, times-append n (f r) (flat_map f rs), one_part f n rs k (omega (arith, below)))
two_parts f n (r ∷ rs) (suc j) zero inside below other = omega (arith, times-append n (f r) (flat_map f rs), one_part f n rs j (omega (arith, inside)))
two_parts f n (r ∷ rs) (suc j) (suc k) inside below other =
    omega (arith, times-append n (f r) (flat_map f rs), two_parts f n rs j k (omega (arith, inside)) (omega (arith, below)) (λ e. other (ap suc e)))

pub same_parts : (f g : Root → List ℕ) (roots : List Root) → ((j : ℕ) → j < length roots → g (get_or roots j no_root) ≡ f (get_or roots j no_root))
    → flat_map g roots ≡ flat_map f roots
same_parts f g [] same = refl
same_parts f g (r ∷ rs) same = ap₂ (λ (xs ys : List ℕ). xs ++ ys) (same 0 (omega arith)) (same_parts f g rs (λ j below. same (suc j) (omega (arith, below))))

pub set_part : (f g : Root → List ℕ) (n : ℕ) (above : Root) (roots : List Root) (k : ℕ) → k < length roots
    → ((j : ℕ) → j < length roots → (j ≡ k → ⊥) → g (get_or roots j no_root) ≡ f (get_or roots j no_root))
    → times n (flat_map g (slice_set roots k above)) + times n (f (get_or roots k no_root)) ≡ times n (flat_map f roots) + times n (g above)
set_part f g n above [] k below same = absurd (omega (arith, below))
set_part f g n above (r ∷ rs) zero below same =
    let rest : flat_map g rs ≡ flat_map f rs = same_parts f g rs (λ j inside. same (suc j) (omega (arith, inside)) (λ e. omega (arith, e))) in
    omega (arith, times-append n (g above) (flat_map g rs), times-append n (f r) (flat_map f rs), ap (times n) rest)
set_part f g n above (r ∷ rs) (suc k) below same =
    let first : g r ≡ f r = same 0 (omega arith) (λ e. omega (arith, e)) in
    omega (
      arith,
      times-append n (g r) (flat_map g (slice_set rs k above)),
      times-append n (f r) (flat_map f rs),
      ap (times n) first,
      set_part f g n above rs k (omega (arith, below)) (λ j inside other. same (suc j) (omega (arith, inside)) (λ e. other (omega (arith, e)))),
    )

-- ---- an item set

pub set_here : (roots : List Root) (k : ℕ) (above : Root) → k < length roots → get_or (slice_set roots k above) k no_root ≡ above
set_here [] k above below = absurd (omega (arith, below))
set_here (r ∷ rs) zero above below = refl
set_here (r ∷ rs) (suc k) above below = set_here rs k above (omega (arith, below))

pub set_other : (roots : List Root) (k j : ℕ) (above : Root) → (j ≡ k → ⊥) → get_or (slice_set roots k above) j no_root ≡ get_or roots j no_root
set_other [] k j above other = refl
set_other (r ∷ rs) zero zero above other = absurd (other refl)
set_other (r ∷ rs) zero (suc j) above other = refl
set_other (r ∷ rs) (suc k) zero above other = refl
set_other (r ∷ rs) (suc k) (suc j) above other = set_other rs k j above (λ e. other (ap suc e))

pub set_length : (roots : List Root) (k : ℕ) (above : Root) → length (slice_set roots k above) ≡ length roots
set_length [] k above = refl
set_length (r ∷ rs) zero above = refl
set_length (r ∷ rs) (suc k) above = ap suc (set_length rs k above)
