-- The nodes under a root: their children, and what is said to be damaged of them.
use Rattle.std.proofs.Common.{◌≡◌, inl, inr, ℕ, zero, suc, ◌<◌, Bool, true, false, List, [], refl, sym, ap, subst, arith}
use Rattle.std.specs.Prelude.{map, Contains, IsTrue, Some}
use Rattle.std.specs.List.{flat_map, AllByRecursion}
use Rattle.page_laws.specs.declared.errors.TreeError.{TreeError}
use Rattle.page_laws.specs.declared.root.Root.{Root}
use Rattle.bptree_node.specs.declared.rows.Branch.{Branch}
use Rattle.bptree_node.specs.Nodes.{node_in}
use Rattle.bptree_node.specs.Trees.{Tree, Limb, Place, tree_at, places_of, places_at, pages_of, node_branches, AreNodes}
use Rattle.bptree_node.specs.TreeLaws.{limb_at}
use Rattle.bptree_walk.specs.declared.ahead.Ahead.{Ahead}
use Rattle.bptree_walk.specs.Courses.{IsPart, AreSound, first_ahead}
use Rattle.bptree_walk.specs.Damage.{TellsDamage, is_node_of}
use Rattle.bptree_walk.specs.Visits.{IsLost, IsMistaken, child_ahead}
use Rattle.std.proofs.lemmas.List.Folds.{flat_map-map}
use Rattle.bptree_walk.proofs.Lists.{first_among, among_cases, among_rest, among_lists, beside, all_of_list, all_of_image}

module _ (pages : ℕ → List ℕ) where
  -- the root of a tree is one of its places
  pub root_placed : (l page : ℕ) → Contains (places_of l (tree_at pages l page)) (record { level = l; page = page })
  root_placed zero page = first_among {X = Place} (record { level = zero; page = page }) []
  root_placed (suc l) page = first_among {X = Place} (record { level = suc l; page = page }) (flat_map (λ (limb : Limb (Tree l)). places_of l limb.below) (tree_at pages (suc l) page).limbs)

  -- the places under the branches of a node
  module _ (l : ℕ) where
    abbrev pub places_under : Branch → List Place
    places_under b = places_of l (tree_at pages l b.child)

    pub places_are : (bs : List Branch) → flat_map (λ (limb : Limb (Tree l)). places_of l limb.below) (map (limb_at pages l) bs) ≡ flat_map places_under bs
    places_are bs = flat_map-map (λ (limb : Limb (Tree l)). places_of l limb.below) (limb_at pages l) bs

  -- a child of an inner node is one of its places
  pub child_placed : (l page lower at : ℕ) (b : Branch) → Contains (places_of l (tree_at pages l page)) (record { level = suc lower; page = at }) → Contains (node_branches (node_in (pages at))) b
      → Contains (places_of l (tree_at pages l page)) (record { level = lower; page = b.child })
  child_placed zero page lower at b is among =
      elim (among_cases {X = Place} (record { level = suc lower; page = at }) (record { level = zero; page = page }) [] is) [
        | inl same ↦ let other : 0 ≡ suc lower = ap (λ (p : Place). p.level) same in absurd (omega (arith, other))
        | inr none ↦ absurd (omega (arith, none.1))
      ]
  child_placed (suc l) page lower at b is among =
      let bs : List Branch = node_branches (node_in (pages page)) in
      let parent : Place = record { level = suc lower; page = at } in
      let child : Place = record { level = lower; page = b.child } in
      let rest : Contains (flat_map (places_under l) bs) child =
      elim (among_cases {X = Place} parent (record { level = suc l; page = page }) (flat_map (λ (limb : Limb (Tree l)). places_of l limb.below) (map (limb_at pages l) bs)) is) [
        | inl same ↦
            let level : suc l ≡ suc lower = ap (λ (p : Place). p.level) same in
            let number : page ≡ at = ap (λ (p : Place). p.page) same in
            let lowers : l ≡ lower = omega (arith, level) in
            let found : Contains (places_under l b) (record { level = l; page = b.child }) = root_placed l b.child in
            among_lists (places_under l) bs b child (subst (λ (n : ℕ). Contains (node_branches (node_in (pages n))) b) (sym number) among)
            (subst (λ (n : ℕ). Contains (places_under l b) (record { level = n; page = b.child })) lowers found)
        | inr deeper ↦ beside (places_under l) bs parent child (λ (c : Branch) (there : Contains (places_under l c) parent). child_placed l c.child lower at b there among)
            (subst (λ (xs : List Place). Contains xs parent) (places_are l bs) deeper)
      ]
      in
      among_rest {X = Place} child (record { level = suc l; page = page }) (flat_map (λ (limb : Limb (Tree l)). places_of l limb.below) (map (limb_at pages l) bs))
      (subst (λ (xs : List Place). Contains xs child) (sym (places_are l bs)) rest)

  -- ---- a root, and what is under it

  first_of : (height page : ℕ) (a : Ahead) → first_ahead height page ≡ Some a → IsPart pages (record { page = page; height = height }) a
  first_of zero page a is = absurd (cc)
  first_of (suc l) page a is =
      let same : record { page = page; level = l; parent = 1 } ≡ a = cc in
      subst (λ (x : Ahead). IsPart pages (record { page = page; height = suc l }) x) same
      (record { is = root_placed l page; named = inl (record { parent = refl; is = refl }) })

  -- the root is a part of its tree
  pub first_part : (root : Root) (a : Ahead) → first_ahead root.height root.page ≡ Some a → IsPart pages root a
  first_part root a is = first_of root.height root.page a is

  children_of : (height page lower at : ℕ) (b : Branch) → Contains (places_at pages (record { page = page; height = height })) (record { level = suc lower; page = at })
      → Contains (node_branches (node_in (pages at))) b → Contains (places_at pages (record { page = page; height = height })) (record { level = lower; page = b.child })
  children_of zero page lower at b is among = absurd (omega (arith, is.1))
  children_of (suc l) page lower at b is among = child_placed l page lower at b is among

  -- and so are the children of its parts
  pub child_part : (root : Root) (a : Ahead) (l : ℕ) (b : Branch) → a.level ≡ suc l → IsPart pages root a → Contains (node_branches (node_in (pages a.page))) b
      → IsPart pages root (child_ahead l a.page b)
  child_part root a l b level part among =
      let placed = subst (λ (n : ℕ). Contains (places_at pages root) (record { level = n; page = a.page })) level part.is in
      record {
        is = children_of root.height root.page l a.page b placed among;
        named = inr (record { parent = placed; branch = b; among = among; is = refl });
      }

  height_of : (height page : ℕ) (x : Place) → Contains (places_at pages (record { page = page; height = height })) x → 0 < height
  height_of zero page x is = absurd (omega (arith, is.1))
  height_of (suc l) page x is = omega arith

  -- ---- what is said to be damaged

  module _ (live : ℕ → Bool) (root : Root) (a : Ahead) (why : TreeError) where
    -- a node's page that isn't live
    pub lost_breaks : IsPart pages root a → IsLost live a why → TellsDamage pages live root why
    lost_breaks part lost = subst (TellsDamage pages live root) (sym lost.is) (elim part.named [
      | inl first ↦ inl (record { named = first.parent; some = height_of root.height root.page _ part.is; lost = subst (λ (n : ℕ). live n ≡ false) first.is lost.lost })
      | inr child ↦ inr (record { level = a.level; is = child.parent; branch = child.branch; among = child.among; lost = subst (λ (n : ℕ). live n ≡ false) (sym child.is) lost.lost })
    ])

    -- a page that is no node of its level
    pub mistaken_breaks : IsPart pages root a → IsMistaken a (pages a.page) why → TellsDamage pages live root why
    mistaken_breaks part mistaken = subst (TellsDamage pages live root) (sym mistaken.is)
        (record { level = a.level; is = part.is; none = mistaken.none })

  -- ---- sound trees

  module _ (live : ℕ → Bool) where
    -- the page of a sound node is live
    pub sound_live : (level page : ℕ) → AreSound pages live level page → live page ≡ true
    sound_live zero page sound = sound.1.0
    sound_live (suc l) page sound = sound.1.0

    -- and is a node of its level
    pub sound_node : (level page : ℕ) → AreSound pages live level page → is_node_of level (node_in (pages page)) ≡ true
    sound_node zero page sound = ap (is_node_of zero) sound.0
    sound_node (suc l) page sound = ap (is_node_of (suc l)) sound.0.0

    -- the children of a sound node are sound
    pub sound_child : (l page : ℕ) (b : Branch) → AreSound pages live (suc l) page → Contains (node_branches (node_in (pages page))) b → AreSound pages live l b.child
    sound_child l page b sound among =
        let bs : List Branch = node_branches (node_in (pages page)) in (
          all_of_image (limb_at pages l) (λ (limb : Limb (Tree l)). AreNodes pages l limb.below) bs b sound.0.1 among,
          all_of_list (λ (c : Branch). pages_of l (tree_at pages l c.child)) (λ n. IsTrue (live n)) bs b
              (subst (AllByRecursion (λ n. IsTrue (live n))) (flat_map-map (λ (limb : Limb (Tree l)). pages_of l limb.below) (limb_at pages l) bs) sound.1.1) among,
        )
