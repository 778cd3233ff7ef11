-- Laws of trees: what they are read from, and what a walk gives.
use Rattle.std.proofs.Common.{◌≡◌, ℕ, zero, suc, Bool, true, false, List, [], ◌∷◌, ◌++◌, refl, sym, ap, ap₂, subst, ◌∙◌}
use Rattle.std.specs.Prelude.{map, filter, if◌then◌else◌, IsTrue}
use Rattle.std.specs.List.{flat_map, list_any, AllByRecursion}
use Rattle.std.proofs.lemmas.Bool.{or_parts, false≢true}
use Rattle.std.proofs.lemmas.List.Elements.{filter-append}
use Rattle.page_laws.specs.declared.root.Root.{Root}
use Rattle.bptree_node.specs.declared.rows.Entry.{Entry}
use Rattle.bptree_node.specs.declared.rows.Branch.{Branch}
use Rattle.bptree_node.specs.Nodes.{node_in}
use Rattle.bptree_node.specs.Lists.{all-front, all-back}
use Rattle.bptree_node.specs.Trees.{Tree, Limb, node_entries, node_branches, tree_at, list_of, pages_of, IsCovered, AreNodes, HaveCorners, IsSound, at_root, list_at, pages_at, IsSoundAt, HaveCornersAt, IsTree}

-- ---- a tree is read from its own pages alone

-- a branch with the tree under it
abbrev pub limb_at : (ℕ → List ℕ) → (l : ℕ) → Branch → Limb (Tree l)
limb_at pages l b = record { branch = b; below = tree_at pages l b.child }

module _ (old new : ℕ → List ℕ) where
  abbrev pub AreSame : List ℕ → Type 0
  AreSame numbers = AllByRecursion (λ page. old page ≡ new page) numbers

  limbs-stay : (l : ℕ) → ((page : ℕ) → AreSame (pages_of l (tree_at old l page)) → tree_at new l page ≡ tree_at old l page) → (bs : List Branch)
      → AreSame (flat_map (λ (limb : Limb (Tree l)). pages_of l limb.below) (map (limb_at old l) bs)) → map (limb_at new l) bs ≡ map (limb_at old l) bs
  limbs-stay l stay [] same = refl
  limbs-stay l stay (b ∷ bs) same =
      let here = pages_of l (tree_at old l b.child) in
      let there = flat_map (λ (limb : Limb (Tree l)). pages_of l limb.below) (map (limb_at old l) bs) in
      ap₂ (λ (t : Tree l) (limbs : List (Limb (Tree l))). record { branch = b; below = t } ∷ limbs)
      (stay b.child (all-front (λ page. old page ≡ new page) here there same)) (limbs-stay l stay bs (all-back (λ page. old page ≡ new page) here there same))

  -- if its pages are the same, the tree is
  pub tree-stays : (l page : ℕ) → AreSame (pages_of l (tree_at old l page)) → tree_at new l page ≡ tree_at old l page
  tree-stays zero page same = ap {B = Tree zero} (λ (bytes : List ℕ). record { page = page; entries = node_entries (node_in bytes) }) (sym same.0)
  tree-stays (suc l) page same =
      ap {B = Tree (suc l)} (λ (bytes : List ℕ). record { page = page; limbs = map (limb_at new l) (node_branches (node_in bytes)) }) (sym same.0)
      ∙ ap {B = Tree (suc l)} (λ (limbs : List (Limb (Tree l))). record { page = page; limbs = limbs })
      (limbs-stay l (tree-stays l) (node_branches (node_in (old page))) same.1)

  -- whatever is said of the tree from a root stays
  pub root-stays : {A : Type 0} (none : A) (some : (l : ℕ) → Tree l → A) (height page : ℕ) → AreSame (at_root [] pages_of old height page)
      → at_root none some new height page ≡ at_root none some old height page
  root-stays none some zero page same = refl
  root-stays none some (suc l) page same = ap (some l) (tree-stays l page same)

  nodes-under : (l : ℕ) → ((t : Tree l) → AreSame (pages_of l t) → AreNodes old l t → AreNodes new l t) → (limbs : List (Limb (Tree l)))
      → AreSame (flat_map (λ (limb : Limb (Tree l)). pages_of l limb.below) limbs) → AllByRecursion (λ (limb : Limb (Tree l)). AreNodes old l limb.below) limbs
      → AllByRecursion (λ (limb : Limb (Tree l)). AreNodes new l limb.below) limbs
  nodes-under l each [] same nodes = tt
  nodes-under l each (limb ∷ limbs) same nodes =
      let here = pages_of l limb.below in
      let there = flat_map (λ (limb : Limb (Tree l)). pages_of l limb.below) limbs in (
        each limb.below (all-front (λ page. old page ≡ new page) here there same) nodes.0,
        nodes-under l each limbs (all-back (λ page. old page ≡ new page) here there same) nodes.1,
      )

  pub nodes-stay : (l : ℕ) (t : Tree l) → AreSame (pages_of l t) → AreNodes old l t → AreNodes new l t
  nodes-stay zero t same nodes = sym (ap node_in same.0) ∙ nodes
  nodes-stay (suc l) t same nodes = (sym (ap node_in same.0) ∙ nodes.0, nodes-under l (nodes-stay l) t.limbs same.1 nodes.1)

  pub sound-stays : (height page : ℕ) → AreSame (at_root [] pages_of old height page) → IsSoundAt old height page → IsSoundAt new height page
  sound-stays zero page same sound = sound
  sound-stays (suc l) page same sound =
      let nodes = nodes-stay l (tree_at old l page) same sound.nodes in
      let whole : IsSound new l (tree_at old l page) = record { nodes = nodes; filled = sound.filled; firsts = sound.firsts } in
      subst (IsSound new l) (sym (tree-stays l page same)) whole

  pub corners-stay : (are_corners : List Entry → ℕ → ℕ → Type 0) (height page : ℕ) → AreSame (at_root [] pages_of old height page)
      → HaveCornersAt are_corners old height page → HaveCornersAt are_corners new height page
  corners-stay are_corners zero page same corners = tt
  corners-stay are_corners (suc l) page same corners = subst (HaveCorners are_corners l) (sym (tree-stays l page same)) corners

  -- a tree whose pages are the same stays one, if they are still live
  pub is_tree-stays : (are_corners : List Entry → ℕ → ℕ → Type 0) (was_live is_live : ℕ → Bool) (root : Root) → AreSame (pages_at old root)
      → AllByRecursion (λ page. IsTrue (is_live page)) (pages_at old root) → IsTree are_corners old was_live root → IsTree are_corners new is_live root
  is_tree-stays are_corners was_live is_live root same live is =
      let pages : pages_at new root ≡ pages_at old root = root-stays [] pages_of root.height root.page same in
      let entries : list_at new root ≡ list_at old root = root-stays [] list_of root.height root.page same in
      record {
        tree = record {
          height = is.tree.height;
          sound = sound-stays root.height root.page same is.tree.sound;
          rising = rw entries is.tree.rising;
          distinct = rw pages is.tree.distinct;
          live = rw pages live;
        };
        corners = corners-stay are_corners root.height root.page same is.corners;
      }

-- ---- walks

-- what a walk gives that leaves out the children that don't meet
abbrev pub walked : (ℕ → ℕ → Bool) → (ℕ → Bool) → (l : ℕ) → Tree l → List Entry
walked meets has zero t = filter (λ (e : Entry). has e.key) t.entries
walked meets has (suc l) t = flat_map (λ (limb : Limb (Tree l)). if meets limb.branch.low limb.branch.high then walked meets has l limb.below else []) t.limbs

module _ {A : Type 0} (p : A → Bool) where
  -- where no item passes, a filter keeps none
  pub filter-none : (xs : List A) → list_any p xs ≡ false → filter p xs ≡ []
  filter-none [] none = refl
  filter-none (x ∷ xs) none = let parts = or_parts (p x) (list_any p xs) none in
      (λ i. if parts.0 i then x ∷ filter p xs else filter p xs) ∙ filter-none xs parts.1

module _ (meets : ℕ → ℕ → Bool) (has : ℕ → Bool) where
  abbrev has_entry : Entry → Bool
  has_entry e = has e.key

  followed : (b : Bool) (found all : List Entry) → (IsTrue (list_any has_entry all) → IsTrue b) → found ≡ filter has_entry all
      → (if b then found else []) ≡ filter has_entry all
  followed true found all covered is = is
  followed false found all covered is = sym (filter-none has_entry all (not_true (list_any has_entry all) (λ e. false≢true (covered e))))
    where
      not_true : (b : Bool) → (b ≡ true → ⊥) → b ≡ false
      not_true true never = absurd (never refl)
      not_true false never = refl

  walked-under : (l : ℕ) → ((t : Tree l) → IsCovered meets has l t → walked meets has l t ≡ filter has_entry (list_of l t)) → (limbs : List (Limb (Tree l)))
      → AllByRecursion (λ (limb : Limb (Tree l)).
      (IsTrue (list_any has_entry (list_of l limb.below)) → IsTrue (meets limb.branch.low limb.branch.high)) × IsCovered meets has l limb.below)
      limbs
      → flat_map (λ (limb : Limb (Tree l)). if meets limb.branch.low limb.branch.high then walked meets has l limb.below else []) limbs
      ≡ filter has_entry (flat_map (λ (limb : Limb (Tree l)). list_of l limb.below) limbs)
  walked-under l each [] covered = refl
  walked-under l each (limb ∷ limbs) covered =
      ap₂ (λ (xs ys : List Entry). xs ++ ys)
      (followed (meets limb.branch.low limb.branch.high) (walked meets has l limb.below) (list_of l limb.below) covered.0.0 (each limb.below covered.0.1))
      (walked-under l each limbs covered.1)
      ∙ sym (filter-append has_entry (list_of l limb.below) (flat_map (λ (limb : Limb (Tree l)). list_of l limb.below) limbs))

  -- it gives the entries that the region has, if each child under which there are some meets
  pub walked-all : (l : ℕ) (t : Tree l) → IsCovered meets has l t → walked meets has l t ≡ filter (λ (e : Entry). has e.key) (list_of l t)
  walked-all zero t covered = refl
  walked-all (suc l) t covered = walked-under l (walked-all l) t.limbs covered
