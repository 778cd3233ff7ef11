-- The way down to an entry.
use Rattle.std.proofs.Common.{◌≡◌, ℕ, zero, suc, ◌-◌, ◌<◌, Bool, List, length, get_or, refl, sym, ap, subst, ◌∙◌, arith}
use Rattle.std.specs.Prelude.{Contains, Option, Some, None}
use Rattle.std.specs.List.{flat_map, prefix_len}
use Rattle.std.proofs.lemmas.List.Folds.{flat_map-map}
use Rattle.std.proofs.lemmas.List.Sums.{prefix_len-le-length}
use Rattle.page_laws.specs.declared.root.Root.{Root}
use Rattle.bptree_node.specs.declared.rows.Entry.{Entry}
use Rattle.bptree_node.specs.declared.rows.Branch.{Branch}
use Rattle.bptree_node.specs.Nodes.{Node, node_in, branches_of}
use Rattle.bptree_node.specs.TreeLaws.{limb_at}
use Rattle.bptree_node.specs.EntryLaws.{rising-parts}
use Rattle.bptree_node.specs.Trees.{Tree, Limb, tree_at, list_of, list_at, node_branches, node_entries, slot_of, HasFirst, HaveFirsts, IsRising, IsBPlusTree}
use Rattle.bptree_walk.specs.declared.ahead.Ahead.{Ahead}
use Rattle.bptree_walk.specs.Courses.{first_ahead}
use Rattle.bptree_walk.specs.Routes.{reaches, IsLastReached}
use Rattle.bptree_walk.specs.Visits.{child_ahead}
use Rattle.bptree_walk.proofs.Lists.{of_one, all_mapped, all_of_image}
use Rattle.bptree_walk.proofs.Reaching.{HaveFirst, none_reached, last_reached}

module _ (pages : ℕ → List ℕ) (root : Root) (key id : ℕ) where
  -- under the node the entries rise, the branches have their first ones, and one of the key and the id is there if it is in the whole tree
  pub record IsOnWay (level page : ℕ) : Type 0 where
    pub firsts : HaveFirsts level (tree_at pages level page)
    pub rising : IsRising (list_of level (tree_at pages level page))
    pub slot : slot_of key id (list_at pages root) ≡ slot_of key id (list_of level (tree_at pages level page))

  -- the entries under a branch
  abbrev inside : ℕ → Branch → List Entry
  inside l b = list_of l (tree_at pages l b.child)

  list_under : (l page : ℕ) → list_of (suc l) (tree_at pages (suc l) page) ≡ flat_map (inside l) (node_branches (node_in (pages page)))
  list_under l page = flat_map-map (λ (limb : Limb (Tree l)). list_of l limb.below) (limb_at pages l) (node_branches (node_in (pages page)))

  firsts_under : (l page : ℕ) → HaveFirsts (suc l) (tree_at pages (suc l) page) → HaveFirst key id (inside l) (node_branches (node_in (pages page)))
  firsts_under l page firsts =
      all_mapped (limb_at pages l) (λ (limb : Limb (Tree l)). HasFirst limb.branch.key limb.branch.id (list_of l limb.below) × HaveFirsts l limb.below)
      (λ (b : Branch). HasFirst b.key b.id (inside l b)) (λ b both. both.0) (node_branches (node_in (pages page))) firsts

  -- no branch leads to the key and the id
  pub way_ends : (level l page : ℕ) → level ≡ suc l → IsOnWay level page → prefix_len (reaches key id) (node_branches (node_in (pages page))) ≡ 0
      → slot_of key id (list_at pages root) ≡ None
  way_ends level l page is way none =
      let at : IsOnWay (suc l) page = subst (λ (n : ℕ). IsOnWay n page) is way in
      let bs : List Branch = node_branches (node_in (pages page)) in
      at.slot ∙ ap (slot_of key id) (list_under l page)
      ∙ none_reached key id (inside l) bs (firsts_under l page at.firsts) (subst IsRising (list_under l page) at.rising) none

  -- the last branch that reaches them does
  pub way_goes_on : (a child : Ahead) → 0 < a.level → IsOnWay a.level a.page → IsLastReached key id a (node_branches (node_in (pages a.page))) child → IsOnWay child.level child.page
  way_goes_on a child some way last =
      let l : ℕ = a.level - 1 in
      let level : a.level ≡ suc l = omega arith in
      let at : IsOnWay (suc l) a.page = subst (λ (n : ℕ). IsOnWay n a.page) level way in
      let bs : List Branch = node_branches (node_in (pages a.page)) in
      let b : Branch = last.branch in
      let among : Contains bs b = (last.place, last.below, last.is) in
      let rising : IsRising (flat_map (inside l) bs) = subst IsRising (list_under l a.page) at.rising in
      subst (λ (x : Ahead). IsOnWay x.level x.page) (sym last.leads)
      (record {
        firsts = (all_of_image (limb_at pages l) (λ (limb : Limb (Tree l)). HasFirst limb.branch.key limb.branch.id (list_of l limb.below) × HaveFirsts l limb.below) bs b at.firsts among).1;
        rising = of_one (λ (c : Branch). IsRising (inside l c)) bs b (rising-parts (inside l) bs rising) among;
        slot = at.slot ∙ ap (slot_of key id) (list_under l a.page) ∙ last_reached key id (inside l) bs last.place b (firsts_under l a.page at.firsts) rising last.reach last.is;
      })

  -- the slot is that of the leaf
  pub way_is_there : (level page : ℕ) → level ≡ 0 → IsOnWay level page → slot_of key id (node_entries (node_in (pages page))) ≡ slot_of key id (list_at pages root)
  way_is_there level page is way = sym (subst (λ (n : ℕ). IsOnWay n page) is way).slot

way_from : (pages : ℕ → List ℕ) (of_tree : ℕ → Bool) (height page key id : ℕ) (a : Ahead) → IsBPlusTree pages of_tree (record { page = page; height = height })
    → first_ahead height page ≡ Some a → IsOnWay pages (record { page = page; height = height }) key id a.level a.page
way_from pages of_tree zero page key id a tree is = absurd (cc)
way_from pages of_tree (suc l) page key id a tree is =
    let same : record { page = page; level = l; parent = 1 } ≡ a = cc in
    subst (λ (x : Ahead). IsOnWay pages (record { page = page; height = suc l }) key id x.level x.page) same
    (record { firsts = tree.sound.firsts; rising = tree.rising; slot = refl })

-- from the root
pub way_begins : (pages : ℕ → List ℕ) (of_tree : ℕ → Bool) (root : Root) (key id : ℕ) (a : Ahead) → IsBPlusTree pages of_tree root
    → first_ahead root.height root.page ≡ Some a → IsOnWay pages root key id a.level a.page
way_begins pages of_tree root key id a tree is = way_from pages of_tree root.height root.page key id a tree is

-- the branch that was found is the last one that reaches the key and the id
pub reached_last : (key id : ℕ) (a : Ahead) (page : List ℕ) (node : Node) (b : Branch) (reach : ℕ) → node_in page ≡ Some node → reach ≡ prefix_len (reaches key id) (branches_of node) → 0 < reach
    → b ≡ get_or (branches_of node) (reach - 1) b → IsLastReached key id a (node_branches (node_in page)) (child_ahead (a.level - 1) a.page b)
reached_last key id a page node b reach is count some at =
    let place : ℕ = reach - 1 in
    let whole : reach ≡ suc place = omega arith in
    let below : place < length (branches_of node) = omega (arith, count, prefix_len-le-length (reaches key id) (branches_of node)) in
    let last : IsLastReached key id a (branches_of node) (child_ahead (a.level - 1) a.page b) =
    record { branch = b; place = place; reach = sym count ∙ whole; below = below; is = sym at; leads = refl }
    in
    subst (λ (o : Option Node). IsLastReached key id a (node_branches o) (child_ahead (a.level - 1) a.page b)) (sym is) last

-- the child is one level down
pub last_lower : (key id : ℕ) (a : Ahead) (branches : List Branch) (child : Ahead) → IsLastReached key id a branches child → child.level ≡ a.level - 1
last_lower key id a branches child last = ap (λ (x : Ahead). x.level) last.leads
