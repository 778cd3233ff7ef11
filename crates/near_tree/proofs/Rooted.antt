-- The root in the queue: what is under it is what the tree has.
use Rattle.std.proofs.Common.{◌≡◌, ℕ, ◌+◌, ◌*◌, ◌^◌, ◌≤◌, ◌<◌, zero, suc, false, List, [], ◌∷◌, ◌++◌, map, length, refl, sym, ap, ap₂, subst, ◌∙◌, append-nil, arith}
use Rattle.std.specs.Prelude.{◌==◌, ◌&&◌, ◌||◌, nat_lt, sum_by, IsTrue, Contains, IsPermutation}
use Rattle.std.specs.List.{AllByRecursion, flat_map}
use Rattle.std.proofs.lemmas.Bool.Decides.{nat_tests}
use Rattle.std.proofs.lemmas.List.Concat.{flat_map-cons}
use Rattle.std.proofs.lemmas.List.Sums.{sum_by-cons}
use Rattle.std.proofs.lemmas.List.Sorted.{length_permutation}
use Rattle.metric_laws.specs.Objects.{Distance}
use Rattle.bptree_node.specs.declared.rows.Entry.{Entry}
use Rattle.bptree_node.specs.Trees.{tree_at, list_of, list_at, at_root, places_of, places_at, HaveCornersAt}
use Rattle.bptree_walk.proofs.Parts.{root_placed}
use Rattle.answer_lists.specs.Order.{goes_before}
use Rattle.answer_lists.specs.OrderLaws.{goes_before-is}
use Rattle.spb_defs.specs.Pivots.{lower_bound}
use Rattle.box_corner.specs.CurveBoxes.{ReadBack}
use Rattle.near_search.specs.declared.queue.Kind.TheVariants.{Node}
use Rattle.near_search.specs.declared.queue.Waiting.{Waiting}
use Rattle.near_search.specs.Queue.{Candidate, bound_rank, candidates_under, bounds_under, weight_of, most_of}
use Rattle.near_search.specs.Visits.{CanVisit, IsLeast, AreBounds}
use Rattle.near_search.proofs.Lists.{all-map, all-moved}
use Rattle.shelf_tree.specs.Contents.{TreeContent, nodes_of, candidate_of, object_at_slot, IsSoundNode}
use Rattle.shelf_tree.specs.Breaches.{IsReady, CanOpen, CanMeasure}
use Rattle.near_tree.specs.Roots.{root_items, IsRootQueue}
use Rattle.near_tree.specs.Searches.{bounds_from, HasBounds}

-- ---- permuted short lists

all_same : {A : Type 0} (x : A) (ys : List A) → length ys ≡ 1 → AllByRecursion (λ y. y ≡ x) ys → ys ≡ x ∷ []
all_same x [] one all = absurd (omega (arith, one))
all_same x (y ∷ []) one all = ap (λ z. z ∷ []) all.0
all_same x (y ∷ z ∷ ys) one all = absurd (omega (arith, one))

no_items : {A : Type 0} (ys : List A) → length ys ≡ 0 → ys ≡ []
no_items [] none = refl
no_items (y ∷ ys) none = absurd (omega (arith, none))

pub permuted-none : {A : Type 0} (ys : List A) → IsPermutation [] ys → ys ≡ []
permuted-none ys moved = no_items ys (length_permutation [] ys moved)

pub permuted-one : {A : Type 0} (x : A) (ys : List A) → IsPermutation (x ∷ []) ys → ys ≡ x ∷ []
permuted-one x ys moved = all_same x ys (length_permutation (x ∷ []) ys moved) (all-moved (λ y. y ≡ x) (x ∷ []) ys moved (refl, tt))

abbrev root_item : (l page : ℕ) → Waiting
root_item l page = record { bound = 0; kind = Node l; place = page }

-- ---- the queue

pub none_there : (s : TreeContent) (items : List Waiting) → s.root.height ≡ 0 → items ≡ [] → IsRootQueue s items
none_there s items empty is = record {
  are = is ∙ sym (ap (λ (h : ℕ). root_items h s.root.page) empty);
  live = λ below. absurd (omega (arith, below, empty));
}

pub one_there : (s : TreeContent) (items : List Waiting) (l : ℕ) → s.root.height ≡ suc l → IsTrue (s.is_live s.root.page)
    → items ≡ record { bound = 0; kind = Node l; place = s.root.page } ∷ [] → IsRootQueue s items
one_there s items l high live is = record { are = is ∙ sym (ap (λ (h : ℕ). root_items h s.root.page) high); live = λ below. live }

-- ---- sizes

low_weight : (l : ℕ) → suc l ≤ 5 → 31 * 15 ^ l ≤ 2 ^ 31
low_weight zero low = omega arith
low_weight (suc zero) low = omega arith
low_weight (suc (suc zero)) low = omega arith
low_weight (suc (suc (suc zero))) low = omega arith
low_weight (suc (suc (suc (suc zero)))) low = omega arith
low_weight (suc (suc (suc (suc (suc l))))) low = absurd (omega (arith, low))

low_most : (l : ℕ) → suc l ≤ 5 → 30 * 14 ^ l ≤ 1152480
low_most zero low = omega arith
low_most (suc zero) low = omega arith
low_most (suc (suc zero)) low = omega arith
low_most (suc (suc (suc zero))) low = omega arith
low_most (suc (suc (suc (suc zero)))) low = omega arith
low_most (suc (suc (suc (suc (suc l))))) low = absurd (omega (arith, low))

-- ---- bounds

not_less : (b d i : ℕ) → b ≤ d → (nat_lt d b || ((d == b) && nat_lt i i)) ≡ false
not_less b d i h = grind (arith, nat_tests)

not_under : (b d i : ℕ) → b ≤ d → goes_before (d, i) (b, i) ≡ false
not_under b d i h = goes_before-is (d, i) (b, i) ∙ not_less b d i h

module _ (s : TreeContent) where
  weight_root : (height page : ℕ) → height ≤ 5 → sum_by (weight_of (nodes_of s)) (root_items height page) ≤ 2 ^ 31
  weight_root zero page low = omega arith
  weight_root (suc l) page low =
      let sum = sum_by-cons (weight_of (nodes_of s)) (root_item l page) [] in
      let less = low_weight l low in
      omega (arith, sum, less)

  most_root : (height page : ℕ) → height ≤ 5 → sum_by (most_of (nodes_of s)) (root_items height page) ≤ 1152480
  most_root zero page low = omega arith
  most_root (suc l) page low =
      let sum = sum_by-cons (most_of (nodes_of s)) (root_item l page) [] in
      let less = low_most l low in
      omega (arith, sum, less)

  pub light : (items : List Waiting) → IsRootQueue s items → s.root.height ≤ 5 → sum_by (weight_of (nodes_of s)) items ≤ 2 ^ 31
  light items queue low = subst (λ ws. sum_by (weight_of (nodes_of s)) ws ≤ 2 ^ 31) (sym queue.are) (weight_root s.root.height s.root.page low)

  pub few : (items : List Waiting) → IsRootQueue s items → s.root.height ≤ 5 → sum_by (most_of (nodes_of s)) items ≤ 1152480
  few items queue low = subst (λ ws. sum_by (most_of (nodes_of s)) ws ≤ 1152480) (sym queue.are) (most_root s.root.height s.root.page low)

  -- ---- the root may be opened

  placed : (height page l : ℕ) → height ≡ suc l → Contains (at_root [] places_of s.page_at height page) (record { level = l; page = page })
  placed zero page l is = absurd (omega (arith, is))
  placed (suc m) page l is =
      subst (λ (n : ℕ). Contains (places_of m (tree_at s.page_at m page)) (record { level = n; page = page })) (let e : m ≡ l = omega (arith, is) in e)
      (root_placed s.page_at m page)

  visitable_root : (height page : ℕ) → IsReady s → (0 < height → IsTrue (s.is_live page))
      → ((l : ℕ) → height ≡ suc l → Contains (places_at s.page_at s.root) (record { level = l; page = page }))
      → AllByRecursion (CanVisit (CanOpen s) (CanMeasure s)) (root_items height page)
  visitable_root zero page ready live part = tt
  visitable_root (suc l) page ready live part = (record { ready = ready; live = live (omega arith); part = λ known. part l refl }, tt)

  pub visitable : (items : List Waiting) → IsRootQueue s items → IsReady s → AllByRecursion (CanVisit (CanOpen s) (CanMeasure s)) items
  visitable items queue ready =
      subst (λ ws. AllByRecursion (CanVisit (CanOpen s) (CanMeasure s)) ws) (sym queue.are)
      (visitable_root s.root.height s.root.page ready queue.live (λ l is. placed s.root.height s.root.page l is))

  -- ---- what is under the root

  under_root : (height page : ℕ) → flat_map (candidates_under (nodes_of s)) (root_items height page)
      ≡ map (candidate_of s.cell_of s.asked) (at_root [] list_of s.page_at height page)
  under_root zero page = refl
  under_root (suc l) page = flat_map-cons (candidates_under (nodes_of s)) (root_item l page) [] ∙ append-nil (candidates_under (nodes_of s) (root_item l page))

  pub under : (items : List Waiting) → IsRootQueue s items → flat_map (candidates_under (nodes_of s)) items ≡ map (candidate_of s.cell_of s.asked) (list_at s.page_at s.root)
  under items queue = ap (λ ws. flat_map (candidates_under (nodes_of s)) ws) queue.are ∙ under_root s.root.height s.root.page

  bounds_root : (height : ℕ) → flat_map (bounds_under (nodes_of s)) (root_items height s.root.page) ≡ bounds_from s height
  bounds_root zero = refl
  bounds_root (suc l) = flat_map-cons (bounds_under (nodes_of s)) (root_item l s.root.page) [] ∙ append-nil (bounds_under (nodes_of s) (root_item l s.root.page))

  pub bounds_are : (items : List Waiting) → IsRootQueue s items → flat_map (bounds_under (nodes_of s)) items ≡ bounds_from s s.root.height
  bounds_are items queue = ap (λ ws. flat_map (bounds_under (nodes_of s)) ws) queue.are ∙ bounds_root s.root.height

  -- ---- no bound is too great

  all_any : {A : Type 0} (P : A → Type 0) → ((x : A) → P x) → (xs : List A) → AllByRecursion P xs
  all_any P each [] = tt
  all_any P each (x ∷ xs) = (each x, all_any P each xs)

  all_each : {A : Type 0} (P Q : A → Type 0) → ((x : A) → P x → Q x) → (xs : List A) → AllByRecursion P xs → AllByRecursion Q xs
  all_each P Q each [] all = tt
  all_each P Q each (x ∷ xs) all = (each x all.0, all_each P Q each xs all.1)

  least_root : (height page : ℕ) → HaveCornersAt (ReadBack s.axes s.bits s.cell_of) s.page_at height page
      → AllByRecursion (IsLeast (nodes_of s) (IsSoundNode s)) (root_items height page)
  least_root zero page corners = tt
  least_root (suc l) page corners = (
    record {
      objects = all_any (λ (c : Candidate). 0 ≤ c.bound) (λ c. omega arith) (candidates_under (nodes_of s) (root_item l page));
      bounds = all_any (λ (b : ℕ). 0 ≤ b) (λ b. omega arith) (bounds_under (nodes_of s) (root_item l page));
      sound = corners;
    },
    tt,
  )

  module _ (dist : Distance) (query : List ℕ) (has : HasBounds dist query s) where
    abbrev IsLower : Candidate → Type 0
    IsLower c = goes_before (dist query (object_at_slot s c.place), c.id) (bound_rank c) ≡ false

    lower_each : (e : Entry) → lower_bound s.asked (s.cell_of e.key) ≤ dist query (object_at_slot s e.slot) → IsLower (candidate_of s.cell_of s.asked e)
    lower_each e is = not_under (lower_bound s.asked (s.cell_of e.key)) (dist query (object_at_slot s e.slot)) e.id is

    pub are-bounds : (items : List Waiting) → IsRootQueue s items → AreBounds dist (object_at_slot s) query (nodes_of s) (IsSoundNode s) items
    are-bounds items queue = record {
      lower = subst (λ cs. AllByRecursion IsLower cs) (sym (under items queue))
          (all-map IsLower (candidate_of s.cell_of s.asked) (list_at s.page_at s.root)
          (all_each _ (λ e. IsLower (candidate_of s.cell_of s.asked e)) lower_each (list_at s.page_at s.root) has.lower));
      least = subst (λ ws. AllByRecursion (IsLeast (nodes_of s) (IsSoundNode s)) ws) (sym queue.are) (least_root s.root.height s.root.page has.corners);
    }
