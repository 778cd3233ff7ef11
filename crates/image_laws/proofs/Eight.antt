-- The pages of eight trees, counted.
use Rattle.std.proofs.Common.{◌≡◌, ℕ, suc, ◌+◌, ◌≤◌, List, [], ◌∷◌, length, arith}
use Rattle.page_laws.specs.declared.root.Root.{Root}
use Rattle.bptree_node.specs.Trees.{pages_at}
use Rattle.bptree_edit.specs.NodesAt.{times}
use Rattle.bptree_edit.proofs.Counts.{times-none, times-append}
use Rattle.tree_check.specs.PageSets.{Marks, uses}
use Rattle.tree_check.proofs.Rooting.{uses-once}
use Rattle.tree_state.specs.StoreTrees.{tree_pages}
use Rattle.image_trees.specs.Trees.{times_before}

-- eight numbers added from the last one on, and from the first one on by fours
add_eight : (t a b c d e f g h u v w x y z s n : ℕ) → t ≡ a + u → u ≡ b + v → v ≡ c + w → w ≡ d + x → x ≡ e + y → y ≡ f + z → z ≡ g + s → s ≡ h + n → n ≡ 0
    → t ≡ (0 + a + b + c + d) + (0 + e + f + g + h)
add_eight t a b c d e f g h u v w x y z s n one two three four five six seven eight none = omega (arith, one, two, three, four, five, six, seven, eight, none)

few_of : (n : ℕ) → suc (suc (suc (suc (suc (suc (suc (suc (suc n)))))))) ≡ 8 → ⊥
few_of n long = omega (arith, long)

module _ (home : ℕ → List ℕ) (m : ℕ) where
  part : (r : Root) (rs : List Root) → times m (tree_pages home (r ∷ rs)) ≡ times m (pages_at home r) + times m (tree_pages home rs)
  part r rs = times-append m (pages_at home r) (tree_pages home rs)

  pub eight-pages : (roots : List Root) → length roots ≡ 8 → times m (tree_pages home roots) ≡ times_before home roots 0 4 m + times_before home roots 4 4 m
  eight-pages [] long = absurd (cc)
  eight-pages (a ∷ []) long = absurd (omega (arith, long))
  eight-pages (a ∷ b ∷ []) long = absurd (omega (arith, long))
  eight-pages (a ∷ b ∷ c ∷ []) long = absurd (omega (arith, long))
  eight-pages (a ∷ b ∷ c ∷ d ∷ []) long = absurd (omega (arith, long))
  eight-pages (a ∷ b ∷ c ∷ d ∷ e ∷ []) long = absurd (omega (arith, long))
  eight-pages (a ∷ b ∷ c ∷ d ∷ e ∷ f ∷ []) long = absurd (omega (arith, long))
  eight-pages (a ∷ b ∷ c ∷ d ∷ e ∷ f ∷ g ∷ []) long = absurd (omega (arith, long))
  eight-pages (a ∷ b ∷ c ∷ d ∷ e ∷ f ∷ g ∷ h ∷ []) long =
      let n : Root → ℕ = λ (r : Root). times m (pages_at home r) in
      let t : List Root → ℕ = λ (rs : List Root). times m (tree_pages home rs) in
      add_eight (t (a ∷ b ∷ c ∷ d ∷ e ∷ f ∷ g ∷ h ∷ [])) (n a) (n b) (n c) (n d) (n e) (n f) (n g) (n h)
      (t (b ∷ c ∷ d ∷ e ∷ f ∷ g ∷ h ∷ [])) (t (c ∷ d ∷ e ∷ f ∷ g ∷ h ∷ [])) (t (d ∷ e ∷ f ∷ g ∷ h ∷ [])) (t (e ∷ f ∷ g ∷ h ∷ [])) (t (f ∷ g ∷ h ∷ [])) (t (g ∷ h ∷ [])) (t (h ∷ [])) (t [])
      (part a (b ∷ c ∷ d ∷ e ∷ f ∷ g ∷ h ∷ []))
      (part b (c ∷ d ∷ e ∷ f ∷ g ∷ h ∷ []))
      (part c (d ∷ e ∷ f ∷ g ∷ h ∷ []))
      (part d (e ∷ f ∷ g ∷ h ∷ []))
      (part e (f ∷ g ∷ h ∷ []))
      (part f (g ∷ h ∷ []))
      (part g (h ∷ []))
      (part h [])
      (times-none m)
  eight-pages (a ∷ b ∷ c ∷ d ∷ e ∷ f ∷ g ∷ h ∷ i ∷ rest) long = absurd (few_of (length rest) long)

  pub pages-once : (roots : List Root) → length roots ≡ 8 → (used : Marks) → uses used m ≡ times_before home roots 0 4 m + times_before home roots 4 4 m
      → times m (tree_pages home roots) ≤ 1
  pages-once roots eight used is =
      once (times m (tree_pages home roots)) (uses used m) (times_before home roots 0 4 m + times_before home roots 4 4 m) (eight-pages roots eight) is (uses-once used m)
    where
      once : (t u s : ℕ) → t ≡ s → u ≡ s → u ≤ 1 → t ≤ 1
      once t u s all same most = omega (arith, all, same, most)
