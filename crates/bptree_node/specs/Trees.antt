-- A tree: a value by its levels that is read from the pages, the list of its entries, and what makes it a B+-tree.
use Rattle.std.specs.Prelude.{◌≡◌, ℕ, zero, suc, ◌≤◌, ◌==◌, nat_lt, Bool, IsTrue, ◌&&◌, ◌||◌, if◌then◌else◌, List, [], ◌∷◌, length, map, sum_by, Option, Some, None}
use Rattle.std.specs.List.{flat_map, list_any, AllByRecursion, IsDistinct}
use Rattle.page_laws.specs.declared.root.Root.{Root}
use Rattle.bptree_node.specs.declared.layout.TheConstants.{HEIGHT_LIMIT, LEAST_ENTRIES, LEAST_BRANCHES}
use Rattle.bptree_node.specs.declared.rows.Entry.{Entry}
use Rattle.bptree_node.specs.declared.rows.Branch.{Branch}
use Rattle.bptree_node.specs.Nodes.{Node, Leaf, Inner, entries_of, branches_of, node_in}

-- ---- entries in order

-- whether the entry is the one of a key and an id
abbrev pub is_entry : ℕ → ℕ → Entry → Bool
is_entry key id e = (e.key == key) && (e.id == id)

-- whether a key and an id go before others: by the key, then by the id
abbrev pub goes_before : ℕ → ℕ → ℕ → ℕ → Bool
goes_before key id other_key other_id = nat_lt key other_key || ((key == other_key) && nat_lt id other_id)

-- each entry goes before those after it
abbrev pub IsRising : List Entry → Type 0
IsRising [] = Unit {0}
IsRising (e ∷ es) = AllByRecursion (λ (f : Entry). IsTrue (goes_before e.key e.id f.key f.id)) es × IsRising es

-- the slot of a key and an id, if an entry has them
abbrev pub slot_of : ℕ → ℕ → List Entry → Option ℕ
slot_of key id [] = None
slot_of key id (e ∷ es) = if is_entry key id e then Some e.slot else slot_of key id es

-- ---- trees

-- a leaf: its page and its entries
pub record LeafTree : Type 0 where
  pub page : ℕ
  pub entries : List Entry

-- a branch, and the tree under it
pub record Limb (T : Type 0) : Type 0 where
  pub branch : Branch
  pub below : T

-- an inner node: its page, and its branches with the trees under them
pub record InnerTree (T : Type 0) : Type 0 where
  pub page : ℕ
  pub limbs : List (Limb T)

-- a tree whose root is so many levels above the leaves
abbrev pub Tree : ℕ → Type 0
Tree zero = LeafTree
Tree (suc l) = InnerTree (Tree l)

-- the entries and the branches of a page, none if it is no such node
abbrev pub node_entries : Option Node → List Entry
node_entries (Some node) = entries_of node
node_entries None = []

abbrev pub node_branches : Option Node → List Branch
node_branches (Some node) = branches_of node
node_branches None = []

-- the tree that a page and those under it are, whatever they hold
abbrev pub tree_at : (ℕ → List ℕ) → (l : ℕ) → ℕ → Tree l
tree_at pages zero page = record { page = page; entries = node_entries (node_in (pages page)) }
tree_at pages (suc l) page = record {
  page = page;
  limbs = map (λ (b : Branch). record { branch = b; below = tree_at pages l b.child }) (node_branches (node_in (pages page)));
}

-- the entries, from left to right
abbrev pub list_of : (l : ℕ) → Tree l → List Entry
list_of zero t = t.entries
list_of (suc l) t = flat_map (λ (limb : Limb (Tree l)). list_of l limb.below) t.limbs

-- the page of each node, a node before those under it
abbrev pub pages_of : (l : ℕ) → Tree l → List ℕ
pages_of zero t = t.page ∷ []
pages_of (suc l) t = t.page ∷ flat_map (λ (limb : Limb (Tree l)). pages_of l limb.below) t.limbs

-- ---- walks

-- how many nodes a walk visits: the root, and under each node that it visits the children that meet
abbrev pub visited : (ℕ → ℕ → Bool) → (l : ℕ) → Tree l → ℕ
visited meets zero t = 1
visited meets (suc l) t = suc (sum_by (λ (limb : Limb (Tree l)). if meets limb.branch.low limb.branch.high then visited meets l limb.below else 0) t.limbs)

-- each branch under which there is an entry whose key the region has meets the region
abbrev pub IsCovered : (ℕ → ℕ → Bool) → (ℕ → Bool) → (l : ℕ) → Tree l → Type 0
IsCovered meets has zero t = Unit {0}
IsCovered meets has (suc l) t =
    AllByRecursion (λ (limb : Limb (Tree l)).
    (IsTrue (list_any (λ (e : Entry). has e.key) (list_of l limb.below)) → IsTrue (meets limb.branch.low limb.branch.high)) × IsCovered meets has l limb.below)
    t.limbs

-- where a node is: its level and its page
pub record Place : Type 0 where
  pub level : ℕ
  pub page : ℕ

-- where the nodes are
abbrev pub places_of : (l : ℕ) → Tree l → List Place
places_of zero t = record { level = zero; page = t.page } ∷ []
places_of (suc l) t = record { level = suc l; page = t.page } ∷ flat_map (λ (limb : Limb (Tree l)). places_of l limb.below) t.limbs

-- ---- what makes a B+-tree

-- the pages are nodes, and hold what the tree has
abbrev pub AreNodes : (ℕ → List ℕ) → (l : ℕ) → Tree l → Type 0
AreNodes pages zero t = node_in (pages t.page) ≡ Some (Leaf t.entries)
AreNodes pages (suc l) t =
    (node_in (pages t.page) ≡ Some (Inner (map (λ (limb : Limb (Tree l)). limb.branch) t.limbs)))
    × AllByRecursion (λ (limb : Limb (Tree l)). AreNodes pages l limb.below) t.limbs

-- the node and those under it have enough rows
abbrev pub AreFilled : (l : ℕ) → Tree l → Type 0
AreFilled zero t = LEAST_ENTRIES ≤ length t.entries
AreFilled (suc l) t = (LEAST_BRANCHES ≤ length t.limbs) × AllByRecursion (λ (limb : Limb (Tree l)). AreFilled l limb.below) t.limbs

-- the nodes under a root have enough rows
abbrev pub AreFilledBelow : (l : ℕ) → Tree l → Type 0
AreFilledBelow zero t = Unit {0}
AreFilledBelow (suc l) t = AllByRecursion (λ (limb : Limb (Tree l)). AreFilled l limb.below) t.limbs

-- the first entry has this key and this id
abbrev pub HasFirst : ℕ → ℕ → List Entry → Type 0
HasFirst key id [] = ⊥
HasFirst key id (e ∷ es) = (e.key ≡ key) × (e.id ≡ id)

-- the branches have the keys and the ids of the first entries under them
abbrev pub HaveFirsts : (l : ℕ) → Tree l → Type 0
HaveFirsts zero t = Unit {0}
HaveFirsts (suc l) t = AllByRecursion (λ (limb : Limb (Tree l)). HasFirst limb.branch.key limb.branch.id (list_of l limb.below) × HaveFirsts l limb.below) t.limbs

-- the branches have the corners of what is under them
abbrev pub HaveCorners : (are_corners : List Entry → ℕ → ℕ → Type 0) → (l : ℕ) → Tree l → Type 0
HaveCorners are_corners zero t = Unit {0}
HaveCorners are_corners (suc l) t =
    AllByRecursion (λ (limb : Limb (Tree l)). are_corners (list_of l limb.below) limb.branch.low limb.branch.high × HaveCorners are_corners l limb.below) t.limbs

-- the nodes of a B+-tree, as they stand on the pages
pub record IsSound (pages : ℕ → List ℕ) (l : ℕ) (t : Tree l) : Type 0 where
  pub nodes : AreNodes pages l t
  pub filled : AreFilledBelow l t
  pub firsts : HaveFirsts l t

-- ---- from a root

-- the same of a root: the empty tree has no node
abbrev pub at_root : {A : Type 0} → A → ((l : ℕ) → Tree l → A) → (ℕ → List ℕ) → ℕ → ℕ → A
at_root none some pages zero page = none
at_root none some pages (suc l) page = some l (tree_at pages l page)

abbrev pub list_at : (ℕ → List ℕ) → Root → List Entry
list_at pages root = at_root [] list_of pages root.height root.page

abbrev pub pages_at : (ℕ → List ℕ) → Root → List ℕ
pages_at pages root = at_root [] pages_of pages root.height root.page

abbrev pub visited_at : (ℕ → ℕ → Bool) → (ℕ → List ℕ) → Root → ℕ
visited_at meets pages root = at_root 0 (visited meets) pages root.height root.page

abbrev pub places_at : (ℕ → List ℕ) → Root → List Place
places_at pages root = at_root [] places_of pages root.height root.page

abbrev pub IsCoveredAt : (ℕ → ℕ → Bool) → (ℕ → Bool) → (ℕ → List ℕ) → ℕ → ℕ → Type 0
IsCoveredAt meets has pages zero page = Unit {0}
IsCoveredAt meets has pages (suc l) page = IsCovered meets has l (tree_at pages l page)

abbrev pub IsSoundAt : (ℕ → List ℕ) → ℕ → ℕ → Type 0
IsSoundAt pages zero page = page ≡ 0
IsSoundAt pages (suc l) page = IsSound pages l (tree_at pages l page)

abbrev pub HaveCornersAt : (List Entry → ℕ → ℕ → Type 0) → (ℕ → List ℕ) → ℕ → ℕ → Type 0
HaveCornersAt are_corners pages zero page = Unit {0}
HaveCornersAt are_corners pages (suc l) page = HaveCorners are_corners l (tree_at pages l page)

-- the pages hold a B+-tree with this root: its nodes are sound, its entries rise, and its pages are live ones and differ
pub record IsBPlusTree (pages : ℕ → List ℕ) (is_live : ℕ → Bool) (root : Root) : Type 0 where
  pub height : root.height ≤ HEIGHT_LIMIT
  pub sound : IsSoundAt pages root.height root.page
  pub rising : IsRising (list_at pages root)
  pub distinct : IsDistinct (λ a b. a == b) (pages_at pages root)
  pub live : AllByRecursion (λ page. IsTrue (is_live page)) (pages_at pages root)

-- and the branches have the corners of the boxes around what is under them
pub record IsTree (are_corners : List Entry → ℕ → ℕ → Type 0) (pages : ℕ → List ℕ) (is_live : ℕ → Bool) (root : Root) : Type 0 where
  pub tree : IsBPlusTree pages is_live root
  pub corners : HaveCornersAt are_corners pages root.height root.page
