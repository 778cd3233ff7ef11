-- In a sound tree no page breaks a rule.
use Rattle.std.proofs.Common.{◌≡◌, inl, inr, ℕ, zero, suc, ◌+◌, ◌<◌, ◌≤◌, Bool, true, List, [], ◌∷◌, ◌++◌, sym, ap, subst, ◌∙◌, arith}
use Rattle.std.specs.Prelude.{Contains, IsTrue, IsSome, Option, Some, None, map}
use Rattle.std.specs.List.{flat_map, AllByRecursion}
use Rattle.std.proofs.lemmas.Bool.{false≢true}
use Rattle.std.proofs.lemmas.List.Elements.{Contains-append_cases, Contains-append_right}
use Rattle.page_laws.specs.Errors.{TellsNoDamage}
use Rattle.page_laws.specs.declared.errors.TreeError.{TreeError}
use Rattle.page_laws.specs.declared.errors.TreeError.TheVariants as tree
use Rattle.page_laws.specs.declared.root.Root.{Root}
use Rattle.page_laws.specs.declared.rule.Rule.{Rule}
use Rattle.page_laws.specs.declared.rule.Rule.TheVariants as rule
use Rattle.bptree_node.specs.declared.rows.Entry.{Entry}
use Rattle.bptree_node.specs.declared.rows.Branch.{Branch}
use Rattle.bptree_node.specs.EntryLaws.{rising-front, rising-back}
use Rattle.bptree_node.specs.Lists.{all-front, all-back}
use Rattle.bptree_node.specs.Nodes.{Inner, node_in}
use Rattle.bptree_node.specs.Summaries.{HasCorners}
use Rattle.bptree_node.specs.Trees.{Tree, Limb, Place, tree_at, places_of, node_entries, node_branches, IsRising, HasFirst}
use Rattle.bptree_node.specs.TreeLaws.{limb_at}
use Rattle.bptree_walk.proofs.Lists.{first_among, among_cases, of_one}
use Rattle.bptree_walk.proofs.Parts.{places_are}
use Rattle.bptree_walk.specs.Damage.{is_node_of}
use Rattle.bptree_edit.specs.NodesAt.{times, list_under, pages_under, list_under_all, pages_under_all, rows_in, IsBranchOf, AreNodesUnder, AreChildren}
use Rattle.bptree_edit.proofs.Counts.{all-times, times-cons}
use Rattle.bptree_edit.proofs.Rooted.{tree-nodes, by-recursion, list_at-under, pages_at-under}
use Rattle.bptree_edit.proofs.Under.{own_page, list-leaf, list-inner, pages-inner, list_all-cons, list_all-append, times_all-cons, children-first, children-others, children-of, leaf-of, inner-of}
use Rattle.tree_check.specs.PageSets.{Marks, uses}
use Rattle.tree_check.specs.Checks.{IsSoundTree, TellsBreakAt}
use Rattle.tree_check.specs.Damage.{places_under, IsPlaced, IsLost, Breaks, TellsBreak, ends_before}
use Rattle.tree_check.proofs.Order.{joined-ends}

first-front : (key id : ℕ) (xs ys : List Entry) → HasFirst key id xs → HasFirst key id (xs ++ ys)
first-front key id [] ys first = absurd first
first-front key id (x ∷ xs) ys first = first

some-none : {A : Type 0} (o : Option A) → IsSome o → o ≡ None → ⊥
some-none (Some x) some none = absurd (cc)
some-none None some none = false≢true some

module _ {S : Type 0} (entry_box : Entry → Option S) (are_corners : List Entry → ℕ → ℕ → Type 0) (pages : ℕ → List ℕ) (live : ℕ → Bool) (reached : ℕ → ℕ) where
  -- the page is a live one, reached once
  abbrev IsOwn : ℕ → Type 0
  IsOwn m = IsTrue (live m) × (reached m ≤ 1)

  -- nothing is wrong with a node and all under it
  pub record IsFine (l n : ℕ) : Type 0 where
    pub nodes : AreNodesUnder are_corners pages l n
    pub rising : IsRising (list_under pages l n)
    pub boxes : AllByRecursion (λ (e : Entry). IsSome (entry_box e)) (list_under pages l n)
    pub own : (m : ℕ) → 0 < times m (pages_under pages l n) → IsOwn m

  -- the same of what is under some branches
  record AreFine (l : ℕ) (bs : List Branch) : Type 0 where
    children : AreChildren are_corners pages l bs
    rising : IsRising (list_under_all pages l bs)
    boxes : AllByRecursion (λ (e : Entry). IsSome (entry_box e)) (list_under_all pages l bs)
    own : (m : ℕ) → 0 < times m (pages_under_all pages l bs) → IsOwn m

  first-fine : (l : ℕ) (b : Branch) (bs : List Branch) → AreFine l (b ∷ bs) → IsFine l b.child
  first-fine l b bs are = record {
    nodes = (children-first are_corners pages l b bs are.children).1;
    rising = rising-front (list_under pages l b.child) (list_under_all pages l bs) (subst IsRising (list_all-cons pages l b bs) are.rising);
    boxes = all-front (λ (e : Entry). IsSome (entry_box e)) (list_under pages l b.child) (list_under_all pages l bs)
        (subst (AllByRecursion (λ (e : Entry). IsSome (entry_box e))) (list_all-cons pages l b bs) are.boxes);
    own = λ m some. are.own m (omega (arith, some, times_all-cons m pages l b bs));
  }

  others-fine : (l : ℕ) (b : Branch) (bs : List Branch) → AreFine l (b ∷ bs) → AreFine l bs
  others-fine l b bs are = record {
    children = children-others are_corners pages l b bs are.children;
    rising = rising-back (list_under pages l b.child) (list_under_all pages l bs) (subst IsRising (list_all-cons pages l b bs) are.rising);
    boxes = all-back (λ (e : Entry). IsSome (entry_box e)) (list_under pages l b.child) (list_under_all pages l bs)
        (subst (AllByRecursion (λ (e : Entry). IsSome (entry_box e))) (list_all-cons pages l b bs) are.boxes);
    own = λ m some. are.own m (omega (arith, some, times_all-cons m pages l b bs));
  }

  inner-fine : (l n : ℕ) (bs : List Branch) → node_in (pages n) ≡ Some (Inner bs) → IsFine (suc l) n → AreFine l bs
  inner-fine l n bs node is = record {
    children = children-of are_corners pages l n bs node is.nodes;
    rising = subst IsRising (list-inner pages l n bs node) is.rising;
    boxes = subst (AllByRecursion (λ (e : Entry). IsSome (entry_box e))) (list-inner pages l n bs node) is.boxes;
    own = λ m some. is.own m (omega (arith, some, ap (times m) (pages-inner pages l n bs node), times-cons m n (pages_under_all pages l bs)));
  }

  -- the branches of an inner node
  branches-fine : (l n : ℕ) → IsFine (suc l) n → AreFine l (node_branches (node_in (pages n)))
  branches-fine l n is =
      let there = inner-of are_corners pages l n is.nodes in
      subst (AreFine l) (sym (ap node_branches there.1)) (inner-fine l n there.0 there.1 is)

  abbrev places_of_child : ℕ → Branch → List Place
  places_of_child l b = places_of l (tree_at pages l b.child)

  fine-under : (l level page : ℕ) → ((n : ℕ) → IsFine l n → IsPlaced pages l n level page → IsFine level page) → (bs : List Branch) → AreFine l bs
      → Contains (flat_map (places_of_child l) bs) (record { level = level; page = page }) → IsFine level page
  unfolding places_under
  fine-under l level page each [] are among = absurd (omega (arith, among.1))
  fine-under l level page each (b ∷ bs) are among = elim (Contains-append_cases (places_of_child l b) (flat_map (places_of_child l) bs) (record { level = level; page = page }) among) [
    | inl here ↦ each b.child (first-fine l b bs are) here
    | inr there ↦ fine-under l level page each bs (others-fine l b bs are) there
  ]

  -- nor with any node under it
  fine-placed : (l level page n : ℕ) → IsFine l n → IsPlaced pages l n level page → IsFine level page
  unfolding places_under
  fine-placed zero level page n is placed = elim (among_cases {X = Place} (record { level = level; page = page }) (record { level = zero; page = n }) [] placed) [
    | inl same ↦ subst (λ (p : Place). IsFine p.level p.page) same is
    | inr none ↦ absurd (omega (arith, none.1))
  ]
  fine-placed (suc l) level page n is placed =
      let bs : List Branch = node_branches (node_in (pages n)) in
      elim (among_cases {X = Place} (record { level = level; page = page }) (record { level = suc l; page = n }) (flat_map (λ (limb : Limb (Tree l)). places_of l limb.below) (map (limb_at pages l) bs)) placed) [
        | inl same ↦ subst (λ (p : Place). IsFine p.level p.page) same is
        | inr deeper ↦ fine-under l level page (fine-placed l level page) bs (branches-fine l n is)
            (subst (λ (xs : List Place). Contains xs (record { level = level; page = page })) (places_are pages l bs) deeper)
      ]

  -- ---- rule by rule

  not-lost : (l n : ℕ) → IsFine l n → IsLost live reached n → ⊥
  not-lost l n is (inl dead) = false≢true (sym dead ∙ (is.own n (own_page pages l n)).0)
  not-lost l n is (inr twice) = omega (arith, twice, (is.own n (own_page pages l n)).1)

  child-fine : (l : ℕ) (b : Branch) (bs : List Branch) → AreFine l bs → Contains bs b → IsFine l b.child
  child-fine l b [] are among = absurd (omega (arith, among.1))
  child-fine l b (c ∷ cs) are among = elim (among_cases b c cs among) [
    | inl same ↦ subst (λ (d : Branch). IsFine l d.child) same (first-fine l c cs are)
    | inr rest ↦ child-fine l b cs (others-fine l c cs are) rest
  ]

  branch-fine : (l : ℕ) (b : Branch) (bs : List Branch) → AreFine l bs → Contains bs b → IsBranchOf are_corners pages l b
  branch-fine l b [] are among = absurd (omega (arith, among.1))
  branch-fine l b (c ∷ cs) are among = elim (among_cases b c cs among) [
    | inl same ↦ subst (IsBranchOf are_corners pages l) same (children-first are_corners pages l c cs are.children).0
    | inr rest ↦ branch-fine l b cs (others-fine l c cs are) rest
  ]

  is-node : (level page : ℕ) → IsFine level page → is_node_of level (node_in (pages page)) ≡ true
  is-node zero page is = ap (is_node_of zero) (leaf-of are_corners pages page is.nodes).1
  is-node (suc l) page is = ap (is_node_of (suc l)) (inner-of are_corners pages l page is.nodes).1

  entries-are : (page : ℕ) → IsFine 0 page → list_under pages 0 page ≡ node_entries (node_in (pages page))
  entries-are page is =
      let there = leaf-of are_corners pages page is.nodes in
      list-leaf pages page there.0 there.1 ∙ sym (ap node_entries there.1)

  ends-fine : (l : ℕ) (front : List Branch) (b : Branch) (back : List Branch) → AreFine l (front ++ b ∷ back) → ends_before b.key b.id (list_under_all pages l front) ≡ true
  ends-fine l front b back are =
      let branch = branch-fine l b (front ++ b ∷ back) are (Contains-append_right front (b ∷ back) b (first_among b back)) in
      joined-ends b.key b.id (list_under_all pages l front) (list_under_all pages l (b ∷ back))
      (subst IsRising (list_all-append pages l front (b ∷ back)) are.rising)
      (subst (HasFirst b.key b.id) (sym (list_all-cons pages l b back)) (first-front b.key b.id (list_under pages l b.child) (list_under_all pages l back) branch.first))

  module _ (parent l n : ℕ) (is : IsFine l n) where
    at : (level page : ℕ) → IsPlaced pages l n level page → IsFine level page
    at level page placed = fine-placed l level page n is placed

    pub fine-breaks : (page : ℕ) (r : Rule) → Breaks entry_box are_corners pages live reached parent l n page r → ⊥
    fine-breaks page rule.Size none = none
    fine-breaks page rule.Journal none = none
    fine-breaks page rule.Profile none = none
    fine-breaks page rule.Pivot none = none
    fine-breaks page rule.Page (inl own) = not-lost l n is own.1
    fine-breaks page rule.Page (inr bad) =
        not-lost bad.level bad.branch.child
        (child-fine bad.level bad.branch (node_branches (node_in (pages page))) (branches-fine bad.level page (at (suc bad.level) page bad.placed)) bad.among) bad.lost
    fine-breaks page rule.Node bad = false≢true (sym bad.none ∙ is-node bad.level page (at bad.level page bad.placed))
    fine-breaks page rule.Fill bad =
        let branch = branch-fine bad.level bad.branch (node_branches (node_in (pages bad.parent))) (branches-fine bad.level bad.parent (at (suc bad.level) bad.parent bad.placed)) bad.among in
        omega (arith, bad.few, ap (λ (k : ℕ). rows_in (node_in (pages k))) bad.is, branch.filled)
    fine-breaks page rule.Order (inl bad) =
        let fine = at 0 page bad.placed in
        bad.disorder (subst IsRising (entries-are page fine) fine.rising)
    fine-breaks page rule.Order (inr bad) =
        let all : AreFine bad.level (bad.front ++ bad.branch ∷ bad.back) = subst (AreFine bad.level) bad.are (branches-fine bad.level page (at (suc bad.level) page bad.placed)) in
        let among : Contains (bad.front ++ bad.branch ∷ bad.back) bad.branch = Contains-append_right bad.front (bad.branch ∷ bad.back) bad.branch (first_among bad.branch bad.back) in
        elim bad.misplaced [
          | inl first ↦ first (branch-fine bad.level bad.branch (bad.front ++ bad.branch ∷ bad.back) all among).first
          | inr late ↦ false≢true (sym late ∙ ends-fine bad.level bad.front bad.branch bad.back all)
        ]
    fine-breaks page rule.Key bad =
        let fine = at 0 page bad.placed in
        some-none (entry_box bad.entry)
        (of_one (λ (e : Entry). IsSome (entry_box e)) (node_entries (node_in (pages page))) bad.entry
        (subst (AllByRecursion (λ (e : Entry). IsSome (entry_box e))) (entries-are page fine) fine.boxes) bad.among) bad.none
    fine-breaks page rule.Box bad =
        bad.other (branch-fine bad.level bad.branch (node_branches (node_in (pages page))) (branches-fine bad.level page (at (suc bad.level) page bad.placed)) bad.among).corners
    fine-breaks page rule.Slot none = none
    fine-breaks page rule.Match none = none

    pub fine-tells : (why : TreeError) → TellsBreak entry_box are_corners pages live reached parent l n why → TellsNoDamage why
    fine-tells (tree.Damaged page r) tells = fine-breaks page r tells
    fine-tells tree.Fault tells = tt
    fine-tells tree.Memory tells = tt

module _ {S : Type 0} (joined : S → S → S) (entry_box : Entry → Option S) (keys : S → ℕ × ℕ) (pages : ℕ → List ℕ) (live : ℕ → Bool) (used : Marks) (root : Root) where
  root-fine : (l : ℕ) → root.height ≡ suc l → IsSoundTree joined entry_box keys pages live used root
      → IsFine entry_box (HasCorners joined entry_box keys) pages live (λ m. uses used m + times m (pages_under pages l root.page)) l root.page
  root-fine l is sound =
      let list = list_at-under pages root l is in
      let numbers = pages_at-under pages root l is in
      record {
        nodes = tree-nodes (HasCorners joined entry_box keys) pages live root l is sound.tree;
        rising = subst IsRising list sound.tree.tree.rising;
        boxes = subst (AllByRecursion (λ (e : Entry). IsSome (entry_box e))) list (by-recursion (λ (e : Entry). IsSome (entry_box e)) _ sound.keys_are);
        own = λ m some. (
          all-times (λ k. IsTrue (live k)) m (pages_under pages l root.page) (subst (AllByRecursion (λ k. IsTrue (live k))) numbers sound.tree.tree.live) some,
          omega (arith, sound.unused m, ap (times m) numbers),
        );
      }

  -- over a sound tree nothing is said to be damaged
  pub sound-tells : (l : ℕ) → root.height ≡ suc l → IsSoundTree joined entry_box keys pages live used root → (why : TreeError)
      → TellsBreakAt entry_box (HasCorners joined entry_box keys) pages live used root.height root.page why → TellsNoDamage why
  sound-tells l is sound why tells =
      fine-tells entry_box (HasCorners joined entry_box keys) pages live (λ m. uses used m + times m (pages_under pages l root.page)) 1 l root.page (root-fine l is sound) why
      (subst (λ (h : ℕ). TellsBreakAt entry_box (HasCorners joined entry_box keys) pages live used h root.page why) is tells)
