-- What a walk gives and visits under a node, by the children that it follows.
use Rattle.std.proofs.Common.{◌≡◌, ℕ, zero, suc, ◌+◌, ◌-◌, Bool, true, false, cond, List, [], ◌∷◌, ◌++◌, refl, sym, ap, subst, ◌∙◌, arith}
use Rattle.std.specs.Prelude.{map, filter, sum_by, if◌then◌else◌, Option, Some, None}
use Rattle.std.specs.List.{flat_map, AllByRecursion}
use Rattle.std.proofs.lemmas.Bool.{false≢true}
use Rattle.std.proofs.lemmas.List.{append-nil}
use Rattle.std.proofs.lemmas.List.Sums.{sum_by-cons}
use Rattle.page_laws.specs.declared.root.Root.{Root}
use Rattle.bptree_node.specs.declared.rows.Entry.{Entry}
use Rattle.bptree_node.specs.declared.rows.Branch.{Branch}
use Rattle.bptree_node.specs.Nodes.{Node, Leaf, Inner, node_in}
use Rattle.bptree_node.specs.TreeLaws.{limb_at, walked}
use Rattle.bptree_node.specs.Trees.{Tree, Limb, tree_at, visited, node_entries, node_branches}
use Rattle.bptree_walk.specs.declared.ahead.Ahead.{Ahead}
use Rattle.bptree_walk.specs.Courses.{IsPart, AreSound}
use Rattle.bptree_walk.specs.Damage.{is_node_of}
use Rattle.bptree_walk.specs.Visits.{child_ahead, followed}
use Rattle.bptree_walk.proofs.Opening.{followed_all}
use Rattle.bptree_walk.proofs.Parts.{child_part, sound_child}

-- ---- nodes of a level

leaf_branches : (o : Option Node) → is_node_of 0 o ≡ true → node_branches o ≡ []
leaf_branches None is = absurd (false≢true is)
leaf_branches (Some (Leaf entries)) is = refl
leaf_branches (Some (Inner branches)) is = absurd (false≢true is)

pub inner_entries : (l : ℕ) (o : Option Node) → is_node_of (suc l) o ≡ true → node_entries o ≡ []
inner_entries l None is = absurd (false≢true is)
inner_entries l (Some (Leaf entries)) is = absurd (false≢true is)
inner_entries l (Some (Inner branches)) is = refl

module _ (pages : ℕ → List ℕ) (meets : ℕ → ℕ → Bool) (has : ℕ → Bool) where
  -- what a walk gives and visits under a node
  abbrev pub walked_under : Ahead → List Entry
  walked_under a = walked meets has a.level (tree_at pages a.level a.page)

  abbrev pub visits_under : Ahead → ℕ
  visits_under a = visited meets a.level (tree_at pages a.level a.page)

  module _ (l parent : ℕ) where
    chosen_walks : (chosen : Bool) (b : Branch) (bs : List Branch) (rest : List Entry) → flat_map walked_under (map (child_ahead l parent) bs) ≡ rest
        → flat_map walked_under (map (child_ahead l parent) (cond chosen (b ∷ bs) bs)) ≡ (if chosen then walked meets has l (tree_at pages l b.child) else []) ++ rest
    chosen_walks true b bs rest is = ap (λ (es : List Entry). walked meets has l (tree_at pages l b.child) ++ es) is
    chosen_walks false b bs rest is = is

    -- the entries under the children that meet
    pub walks_followed : (bs : List Branch) → flat_map walked_under (followed meets l parent bs)
        ≡ flat_map (λ (limb : Limb (Tree l)). if meets limb.branch.low limb.branch.high then walked meets has l limb.below else []) (map (limb_at pages l) bs)
    walks_followed [] = refl
    walks_followed (b ∷ bs) =
        chosen_walks (meets b.low b.high) b (filter (λ (c : Branch). meets c.low c.high) bs)
        (flat_map (λ (limb : Limb (Tree l)). if meets limb.branch.low limb.branch.high then walked meets has l limb.below else []) (map (limb_at pages l) bs)) (walks_followed bs)

    chosen_visits : (chosen : Bool) (b : Branch) (bs : List Branch) (rest : ℕ) → sum_by visits_under (map (child_ahead l parent) bs) ≡ rest
        → sum_by visits_under (map (child_ahead l parent) (cond chosen (b ∷ bs) bs)) ≡ (if chosen then visited meets l (tree_at pages l b.child) else 0) + rest
    chosen_visits true b bs rest is =
        sum_by-cons visits_under (child_ahead l parent b) (map (child_ahead l parent) bs) ∙ ap (λ n. visited meets l (tree_at pages l b.child) + n) is
    chosen_visits false b bs rest is = omega (arith, is)

    -- and how many nodes they are
    pub visits_followed : (bs : List Branch) → sum_by visits_under (followed meets l parent bs)
        ≡ sum_by (λ (limb : Limb (Tree l)). if meets limb.branch.low limb.branch.high then visited meets l limb.below else 0) (map (limb_at pages l) bs)
    visits_followed [] = refl
    visits_followed (b ∷ bs) =
        let count = λ (limb : Limb (Tree l)). if meets limb.branch.low limb.branch.high then visited meets l limb.below else 0 in
        chosen_visits (meets b.low b.high) b (filter (λ (c : Branch). meets c.low c.high) bs) (sum_by count (map (limb_at pages l) bs)) (visits_followed bs)
        ∙ sym (sum_by-cons count (limb_at pages l b) (map (limb_at pages l) bs))

  -- ---- a node of a level, with its entries and the children that are followed

  abbrev pub children_at : ℕ → ℕ → List Ahead
  children_at level page = followed meets (level - 1) page (node_branches (node_in (pages page)))

  pub walk_opens : (level page : ℕ) → is_node_of level (node_in (pages page)) ≡ true
      → walked meets has level (tree_at pages level page) ≡ filter (λ (e : Entry). has e.key) (node_entries (node_in (pages page))) ++ flat_map walked_under (children_at level page)
  walk_opens zero page is =
      let es : List Entry = filter (λ (e : Entry). has e.key) (node_entries (node_in (pages page))) in
      subst (λ (bs : List Branch). es ≡ es ++ flat_map walked_under (followed meets (0 - 1) page bs)) (sym (leaf_branches (node_in (pages page)) is)) (sym (append-nil es))
  walk_opens (suc l) page is =
      let bs : List Branch = node_branches (node_in (pages page)) in
      let lower : l ≡ suc l - 1 = omega arith in
      sym (walks_followed l page bs)
      ∙ ap (λ n. flat_map walked_under (followed meets n page bs)) lower
      ∙ ap (λ (es : List Entry). filter (λ (e : Entry). has e.key) es ++ flat_map walked_under (children_at (suc l) page)) (sym (inner_entries l (node_in (pages page)) is))

  pub visit_opens : (level page : ℕ) → is_node_of level (node_in (pages page)) ≡ true
      → visited meets level (tree_at pages level page) ≡ suc (sum_by visits_under (children_at level page))
  visit_opens zero page is =
      subst (λ (bs : List Branch). 1 ≡ suc (sum_by visits_under (followed meets (0 - 1) page bs))) (sym (leaf_branches (node_in (pages page)) is)) refl
  visit_opens (suc l) page is =
      let bs : List Branch = node_branches (node_in (pages page)) in
      let lower : l ≡ suc l - 1 = omega arith in
      ap suc (sym (visits_followed l page bs) ∙ ap (λ n. sum_by visits_under (followed meets n page bs)) lower)

  pub sound_opens : (live : ℕ → Bool) (level page : ℕ) → is_node_of level (node_in (pages page)) ≡ true → AreSound pages live level page
      → AllByRecursion (λ (a : Ahead). AreSound pages live a.level a.page) (children_at level page)
  sound_opens live zero page is sound =
      subst (λ (bs : List Branch). AllByRecursion (λ (a : Ahead). AreSound pages live a.level a.page) (followed meets (0 - 1) page bs)) (sym (leaf_branches (node_in (pages page)) is)) tt
  sound_opens live (suc l) page is sound =
      let bs : List Branch = node_branches (node_in (pages page)) in
      let lower : l ≡ suc l - 1 = omega arith in
      subst (λ (n : ℕ). AllByRecursion (λ (a : Ahead). AreSound pages live a.level a.page) (followed meets n page bs)) lower
      (followed_all meets l page (λ (a : Ahead). AreSound pages live a.level a.page) bs (λ b among. sound_child pages live l page b sound among))

  pub part_opens : (root : Root) (level : ℕ) (a : Ahead) → a.level ≡ level → is_node_of level (node_in (pages a.page)) ≡ true → IsPart pages root a
      → AllByRecursion (IsPart pages root) (children_at level a.page)
  part_opens root zero a same is part =
      subst (λ (bs : List Branch). AllByRecursion (IsPart pages root) (followed meets (0 - 1) a.page bs)) (sym (leaf_branches (node_in (pages a.page)) is)) tt
  part_opens root (suc l) a same is part =
      let bs : List Branch = node_branches (node_in (pages a.page)) in
      let lower : l ≡ suc l - 1 = omega arith in
      subst (λ (n : ℕ). AllByRecursion (IsPart pages root) (followed meets n a.page bs)) lower
      (followed_all meets l a.page (IsPart pages root) bs (λ b among. child_part pages root a l b same part among))
