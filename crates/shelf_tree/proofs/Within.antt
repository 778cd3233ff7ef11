-- What is under a root: its nodes, and the entries of its leaves.
use Rattle.std.proofs.Common.{◌≡◌, inl, inr, ℕ, zero, suc, List, [], ◌∷◌, sym, ap, subst, arith}
use Rattle.std.specs.Prelude.{map, Contains}
use Rattle.std.specs.List.{flat_map}
use Rattle.std.proofs.lemmas.List.Elements.{Contains-append_cases}
use Rattle.std.proofs.lemmas.List.Folds.{flat_map-map}
use Rattle.page_laws.specs.declared.root.Root.{Root}
use Rattle.bptree_node.specs.declared.rows.Entry.{Entry}
use Rattle.bptree_node.specs.declared.rows.Branch.{Branch}
use Rattle.bptree_node.specs.Nodes.{node_in}
use Rattle.bptree_node.specs.Trees.{Tree, Limb, Place, tree_at, list_of, list_at, places_of, places_at, node_branches, node_entries}
use Rattle.bptree_node.specs.TreeLaws.{limb_at}
use Rattle.bptree_walk.proofs.Lists.{first_among, among_cases, among_rest, among_lists}
use Rattle.bptree_walk.proofs.Parts.{places_under, places_are, child_placed}

module _ {X Y : Type 0} (f : X → List Y) where
  -- an element of lists one after another is in one of them
  pub in_lists : (xs : List X) (y : Y) → Contains (flat_map f xs) y → (x : X) × Contains xs x × Contains (f x) y
  in_lists [] y among = absurd (omega (arith, among.1))
  in_lists (x ∷ xs) y among = elim (Contains-append_cases (f x) (flat_map f xs) y among) [
    | inl here ↦ (x, first_among x xs, here)
    | inr there ↦ let (z, one, is) = in_lists xs y there in (z, among_rest z x xs one, is)
  ]

module _ (pages : ℕ → List ℕ) where
  -- what holds of a root and is handed down from each inner node to its children holds of all nodes
  module _ (Q : ℕ → ℕ → Type 0) (down : (l page : ℕ) (b : Branch) → Q (suc l) page → Contains (node_branches (node_in (pages page))) b → Q l b.child) where
    same_place : (l page level at : ℕ) → ◌≡◌ {A = Place} (record { level = l; page = page }) (record { level = level; page = at }) → Q l page → Q level at
    same_place l page level at same q = subst (λ (n : ℕ). Q level n) (ap (λ (p : Place). p.page) same) (subst (λ (n : ℕ). Q n page) (ap (λ (p : Place). p.level) same) q)

    at_place : (l page : ℕ) → Q l page → (level at : ℕ) → Contains (places_of l (tree_at pages l page)) (record { level = level; page = at }) → Q level at
    at_place zero page q level at is = elim (among_cases {X = Place} (record { level = level; page = at }) (record { level = zero; page = page }) [] is) [
      | inl same ↦ same_place zero page level at same q
      | inr none ↦ absurd (omega (arith, none.1))
    ]
    at_place (suc l) page q level at is =
        let bs : List Branch = node_branches (node_in (pages page)) in
        let this : Place = record { level = level; page = at } in
        elim (among_cases {X = Place} this (record { level = suc l; page = page }) (flat_map (λ (limb : Limb (Tree l)). places_of l limb.below) (map (limb_at pages l) bs)) is) [
          | inl same ↦ same_place (suc l) page level at same q
          | inr deeper ↦
              let (b, among, there) = in_lists (places_under pages l) bs this (subst (λ (xs : List Place). Contains xs this) (places_are pages l bs) deeper) in
              at_place l b.child (down l page b q among) level at there
        ]

  -- the children of the nodes are nodes
  children : (height page lower at : ℕ) (b : Branch) → Contains (places_at pages (record { page = page; height = height })) (record { level = suc lower; page = at })
      → Contains (node_branches (node_in (pages at))) b → Contains (places_at pages (record { page = page; height = height })) (record { level = lower; page = b.child })
  children zero page lower at b is among = absurd (omega (arith, is.1))
  children (suc l) page lower at b is among = child_placed pages l page lower at b is among

  pub child_within : (root : Root) (lower at : ℕ) (b : Branch) → Contains (places_at pages root) (record { level = suc lower; page = at })
      → Contains (node_branches (node_in (pages at))) b → Contains (places_at pages root) (record { level = lower; page = b.child })
  child_within root lower at b is among = children root.height root.page lower at b is among

  -- the entries of the nodes are those of the tree
  abbrev ListedIn : List Entry → ℕ → ℕ → Type 0
  ListedIn all l page = (e : Entry) → Contains (list_of l (tree_at pages l page)) e → Contains all e

  listed_down : (all : List Entry) (l page : ℕ) (b : Branch) → ListedIn all (suc l) page → Contains (node_branches (node_in (pages page))) b → ListedIn all l b.child
  listed_down all l page b listed among e is =
      let bs : List Branch = node_branches (node_in (pages page)) in
      listed e (subst (λ (es : List Entry). Contains es e) (sym (flat_map-map (λ (limb : Limb (Tree l)). list_of l limb.below) (limb_at pages l) bs))
      (among_lists (λ (c : Branch). list_of l (tree_at pages l c.child)) bs b e among is))

  entries : (height page at : ℕ) (e : Entry) → Contains (places_at pages (record { page = page; height = height })) (record { level = 0; page = at })
      → Contains (node_entries (node_in (pages at))) e → Contains (list_at pages (record { page = page; height = height })) e
  entries zero page at e is among = absurd (omega (arith, is.1))
  entries (suc l) page at e is among =
      let all : List Entry = list_of l (tree_at pages l page) in
      at_place (ListedIn all) (listed_down all) l page (λ f there. there) 0 at is e among

  pub entry_within : (root : Root) (at : ℕ) (e : Entry) → Contains (places_at pages root) (record { level = 0; page = at })
      → Contains (node_entries (node_in (pages at))) e → Contains (list_at pages root) e
  entry_within root at e is among = entries root.height root.page at e is among
