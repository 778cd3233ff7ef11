-- A node that was opened: what was put in may be visited, is light enough, and is what is under the node.
use Rattle.std.proofs.Common.{◌≡◌, inl, inr, ℕ, suc, ◌*◌, ◌^◌, ◌≤◌, ◌<◌, Bool, true, false, List, [], ◌∷◌, ◌++◌, length, map, Some, Ok, Err, refl, sym, ap, subst, ◌∙◌, arith}
use Rattle.std.specs.Prelude.{IsTrue, sum_by, Contains, IsPermutation, Result, IfErr, OnOk, MatchResult}
use Rattle.std.specs.List.{flat_map, AllByRecursion}
use Rattle.std.proofs.Math.Nat.{mul-le-mul_right, one-le-pow, pow-succ'}
use Rattle.std.proofs.lemmas.List.Sums.{sum_by-cons, sum_by-append}
use Rattle.std.proofs.lemmas.List.Sorted.{IsPermutation-refl, sum_by-IsPermutation}
use Rattle.std.proofs.lemmas.Bool.{false≢true}
use Rattle.page_laws.specs.declared.errors.TreeError.{TreeError}
use Rattle.page_laws.specs.declared.errors.TreeError.TheVariants as tree
use Rattle.bptree_node.specs.declared.rows.Entry.{Entry}
use Rattle.bptree_node.specs.declared.rows.Branch.{Branch}
use Rattle.bptree_node.specs.Nodes.{Node, node_in, entries_of, branches_of}
use Rattle.bptree_node.specs.TreeSizes.{entries-few, branches-few}
use Rattle.bptree_node.specs.TreeLaws.{limb_at}
use Rattle.bptree_node.specs.Trees.{Tree, Limb, tree_at, list_of, places_at, node_entries, node_branches, HaveCorners}
use Rattle.std.proofs.lemmas.List.{map-append}
use Rattle.bptree_walk.proofs.Lists.{first_among, among_rest}
use Rattle.spb_defs.specs.Scans.{Rank}
use Rattle.box_corner.specs.CurveBoxes.{ReadBack}
use Rattle.near_search.specs.declared.queue.Waiting.{Waiting}
use Rattle.near_search.specs.Queue.{Candidate, candidates_under, bounds_under, weight_of, most_of}
use Rattle.near_search.specs.Visits.{CanVisit, IsLeast, Enqueues, Expands}
use Rattle.near_search.proofs.Lists.{all-prefix, all-moved, all-map}
use Rattle.shelf_tree.specs.Contents.{TreeContent, known_pages, nodes_of, bounds_below, bound_by, candidate_of, entry_item, branch_item, IsSoundNode}
use Rattle.shelf_tree.specs.Breaches.{CanOpen, CanMeasure, TellsOfNode}
use Rattle.shelf_tree.specs.Putting.{ArePutIn, IsRowCause, BreaksEntry, BreaksBranch, HasFilledSlot, HasLiveChild}
use Rattle.shelf_tree.proofs.Within.{child_within, entry_within}
use Rattle.shelf_tree.proofs.Bounding.{each_in, candidates-bounded, branch-bound, bounds-bounded}

-- ---- lists

-- what holds of each item of a list
all-among : {A : Type 0} (Q R : A → Type 0) (rows : List A) → AllByRecursion Q rows → ((row : A) → Contains rows row → Q row → R row) → AllByRecursion R rows
all-among Q R [] all each = tt
all-among Q R (row ∷ rows) all each = (
  each row (first_among row rows) all.0,
  all-among Q R rows all.1 (λ other among is. each other (among_rest other row rows among) is),
)

sum-same : {A : Type 0} (item : A → Waiting) (weigh : Waiting → ℕ) (n : ℕ) → ((row : A) → weigh (item row) ≡ n) → (rows : List A)
    → sum_by weigh (map item rows) ≡ length rows * n
sum-same item weigh n each [] = omega arith
sum-same item weigh n each (row ∷ rows) =
    let a = sum_by-cons weigh (item row) (map item rows) in
    let b = sum-same item weigh n each rows in
    let c = each row in omega (arith, a, b, c)

module _ {A : Type 0} (k : ℕ) (ranks : List Rank) (item : A → Waiting) (good : A → Type 0) (rows : List A) (old new : List Waiting)
    (put : ArePutIn k ranks item good rows old new) where
  -- what was put in weighs no more than all rows
  put-weighs : (weigh : Waiting → ℕ) (n : ℕ) → ((row : A) → weigh (item row) ≡ n) → sum_by weigh put.put_in ≤ length rows * n
  put-weighs weigh n each =
      let a = sum_by-IsPermutation weigh (map item rows) (put.put_in ++ put.left_out) put.parts in
      let b = sum_by-append weigh put.put_in put.left_out in
      let c = sum-same item weigh n each rows in omega (arith, a, b, c)

  put-visited : (can_visit : Waiting → Type 0) → ((row : A) → Contains rows row → good row → can_visit (item row)) → AllByRecursion can_visit put.put_in
  put-visited can_visit each =
      all-prefix can_visit put.put_in put.left_out (all-moved can_visit (map item rows) (put.put_in ++ put.left_out) put.parts
      (all-map can_visit item rows (all-among good (λ row. can_visit (item row)) rows put.good_rows each)))

-- ---- numbers

leaf-light : (sum n : ℕ) → sum ≤ n * 1 → n ≤ 30 → sum < 31 * 15 ^ 0
leaf-light sum n h few = omega (arith, h, few)

leaf-fewer : (sum n : ℕ) → sum ≤ n * 1 → n ≤ 30 → sum ≤ 30 * 14 ^ 0
leaf-fewer sum n h few = omega (arith, h, few)

inner-light : (l sum n : ℕ) → sum ≤ n * (31 * 15 ^ l) → n ≤ 14 → sum < 31 * 15 ^ suc l
inner-light l sum n h few =
    let weight = 31 * 15 ^ l in
    let some : 1 ≤ 15 ^ l = one-le-pow l 15 (omega arith) in
    let most : n * weight ≤ 14 * weight = mul-le-mul_right weight few in omega (arith, h, most, some, pow-succ' 15 l)

inner-fewer : (l sum n : ℕ) → sum ≤ n * (30 * 14 ^ l) → n ≤ 14 → sum ≤ 30 * 14 ^ suc l
inner-fewer l sum n h few =
    let most : n * (30 * 14 ^ l) ≤ 14 * (30 * 14 ^ l) = mul-le-mul_right (30 * 14 ^ l) few in omega (arith, h, most, pow-succ' 14 l)

pub held_page : (known : Bool) (pages : ℕ → List ℕ) (page : List ℕ) (n : ℕ) → (IsTrue known → page ≡ pages n) → IsTrue known → page ≡ known_pages known pages n
held_page true pages page n held is = held is
held_page false pages page n held is = absurd (false≢true is)

-- what follows from an answer that is Ok
pub on-ok : {A : Type 0} (P : A → Type 0) (Q : TreeError → Type 0) (G : Type 0) (result : Result A TreeError) → MatchResult result P Q → ((x : A) → P x → G) → OnOk result G
on-ok P Q G (Ok x) answer each = each x answer
on-ok P Q G (Err why) answer each = tt

-- the same content but for the live pages
abbrev pub with_live : TreeContent → (ℕ → Bool) → TreeContent
with_live s live = record {
  is_known = s.is_known;
  page_at = s.page_at;
  has = s.has;
  is_live = live;
  slots = s.slots;
  axes = s.axes;
  bits = s.bits;
  cell_of = s.cell_of;
  asked = s.asked;
  collection = s.collection;
  root = s.root;
}

-- ---- a node

module _ (s : TreeContent) (page : List ℕ) (node : Node) (is : node_in page ≡ Some node) (level place : ℕ) (held : IsTrue s.is_known → page ≡ s.page_at place)
    (can : CanOpen s level place) where
  rows-here : IsTrue s.is_known → entries_of node ≡ node_entries (node_in (s.page_at place))
  rows-here known = ap node_entries (sym is ∙ ap node_in (held known))

  branches-here : IsTrue s.is_known → branches_of node ≡ node_branches (node_in (s.page_at place))
  branches-here known = ap node_branches (sym is ∙ ap node_in (held known))

  few-entries : length (entries_of node) ≤ 30
  few-entries = subst (λ (es : List Entry). length es ≤ 30) (ap node_entries is) (entries-few page)

  few-branches : length (branches_of node) ≤ 14
  few-branches = subst (λ (bs : List Branch). length bs ≤ 14) (ap node_branches is) (branches-few page)

  -- ---- a leaf
  module _ (leaf : level ≡ 0) where
    leaf-part : IsTrue s.is_known → Contains (places_at s.page_at s.root) (record { level = 0; page = place })
    leaf-part known = subst (λ (n : ℕ). Contains (places_at s.page_at s.root) (record { level = n; page = place })) leaf (can.part known)

    there-entry : (e : Entry) → Contains (entries_of node) e → IsTrue s.is_known → Contains (node_entries (node_in (s.page_at place))) e
    there-entry e among known = subst (λ (es : List Entry). Contains es e) (rows-here known) among

    entry-tells : (why : TreeError) (e : Entry) → Contains (entries_of node) e → BreaksEntry s place e why → TellsOfNode s why
    entry-tells why e among broken = elim broken [
      | inl key ↦ subst (TellsOfNode s) (sym key.0) (λ known. record { is = leaf-part known; entry = e; among = there-entry e among known; none = key.1 })
      | inr slot ↦ subst (TellsOfNode s) (sym slot.0) (λ known. record { is = leaf-part known; entry = e; among = there-entry e among known; free = slot.1 })
    ]

    leaf-cause : (why : TreeError) → IsRowCause (BreaksEntry s place) (entries_of node) why → TellsOfNode s why
    leaf-cause (tree.Damaged n r) cause = entry-tells (tree.Damaged n r) cause.row cause.among cause.broken
    leaf-cause tree.Fault cause = tt
    leaf-cause tree.Memory cause = tt

    pub leaf-tells : {A : Type 0} (P : A → Type 0) (result : Result A TreeError) → MatchResult result P (IsRowCause (BreaksEntry s place) (entries_of node))
        → IfErr result (TellsOfNode s)
    leaf-tells P (Ok x) answer = tt
    leaf-tells P (Err why) answer = leaf-cause why answer

    module _ (k : ℕ) (ranks : List Rank) (old new : List Waiting) (put : ArePutIn k ranks (entry_item s) (HasFilledSlot s) (entries_of node) old new) where
      pub leaf-few : Enqueues (nodes_of s) (CanVisit (CanOpen s) (CanMeasure s)) level old new
      leaf-few = subst (λ (n : ℕ). Enqueues (nodes_of s) (CanVisit (CanOpen s) (CanMeasure s)) n old new) (sym leaf) (record {
        put_in = put.put_in;
        added = put.added;
        visitable = put-visited k ranks (entry_item s) (HasFilledSlot s) (entries_of node) old new put (CanVisit (CanOpen s) (CanMeasure s))
            (λ e among filled. record {
              ready = can.ready;
              filled = filled;
              named = λ known. record { key = e.key; listed = entry_within s.page_at s.root place e (leaf-part known) (there-entry e among known) };
            });
        lighter = leaf-light _ _ (put-weighs k ranks (entry_item s) (HasFilledSlot s) (entries_of node) old new put (weight_of (nodes_of s)) 1 (λ e. refl)) few-entries;
        fewer = leaf-fewer _ _ (put-weighs k ranks (entry_item s) (HasFilledSlot s) (entries_of node) old new put (most_of (nodes_of s)) 1 (λ e. refl)) few-entries;
      })

      entry-candidates : (es : List Entry) → map (candidate_of s.cell_of s.asked) es ≡ flat_map (candidates_under (nodes_of s)) (map (entry_item s) es)
      entry-candidates [] = refl
      entry-candidates (e ∷ es) = ap (λ cs. candidate_of s.cell_of s.asked e ∷ cs) (entry-candidates es)

      entry-bounds : (es : List Entry) → [] ≡ flat_map (bounds_under (nodes_of s)) (map (entry_item s) es)
      entry-bounds [] = refl
      entry-bounds (e ∷ es) = entry-bounds es

      entries-least : (es : List Entry) → AllByRecursion (IsLeast (nodes_of s) (IsSoundNode s)) (map (entry_item s) es)
      entries-least [] = tt
      entries-least (e ∷ es) = (record { objects = (omega arith, tt); bounds = tt; sound = tt }, entries-least es)

      pub leaf-rows : IsTrue s.is_known → Expands (nodes_of s) (IsSoundNode s) k ranks level place old new
      leaf-rows known = subst (λ (n : ℕ). Expands (nodes_of s) (IsSoundNode s) k ranks n place old new) (sym leaf) (record {
        rows = map (entry_item s) (entries_of node);
        objects = subst (λ (cs : List Candidate). IsPermutation cs (flat_map (candidates_under (nodes_of s)) (map (entry_item s) (entries_of node))))
            (sym (entry-candidates (entries_of node)) ∙ ap (map (candidate_of s.cell_of s.asked)) (rows-here known))
            (IsPermutation-refl (flat_map (candidates_under (nodes_of s)) (map (entry_item s) (entries_of node))));
        bounds = subst (λ (bs : List ℕ). IsPermutation [] bs) (entry-bounds (entries_of node)) (IsPermutation-refl []);
        least = λ sound. entries-least (entries_of node);
        put_in = put.put_in;
        left_out = put.left_out;
        parts = put.parts;
        added = put.added;
        shut = put.shut;
      })

  -- ---- an inner node
  module _ (l : ℕ) (inner : level ≡ suc l) where
    inner-part : IsTrue s.is_known → Contains (places_at s.page_at s.root) (record { level = suc l; page = place })
    inner-part known = subst (λ (n : ℕ). Contains (places_at s.page_at s.root) (record { level = n; page = place })) inner (can.part known)

    there-branch : (b : Branch) → Contains (branches_of node) b → IsTrue s.is_known → Contains (node_branches (node_in (s.page_at place))) b
    there-branch b among known = subst (λ (bs : List Branch). Contains bs b) (branches-here known) among

    branch-tells : (why : TreeError) (b : Branch) → Contains (branches_of node) b → BreaksBranch s place b why → TellsOfNode s why
    branch-tells why b among broken = elim broken [
      | inl box ↦ subst (TellsOfNode s) (sym box.0) (λ known. record { level = l; is = inner-part known; branch = b; among = there-branch b among known; none = box.1 })
      | inr child ↦ subst (TellsOfNode s) (sym child.0) (λ known. record { level = l; is = inner-part known; branch = b; among = there-branch b among known; lost = child.1 })
    ]

    inner-cause : (why : TreeError) → IsRowCause (BreaksBranch s place) (branches_of node) why → TellsOfNode s why
    inner-cause (tree.Damaged n r) cause = branch-tells (tree.Damaged n r) cause.row cause.among cause.broken
    inner-cause tree.Fault cause = tt
    inner-cause tree.Memory cause = tt

    pub inner-tells : {A : Type 0} (P : A → Type 0) (result : Result A TreeError) → MatchResult result P (IsRowCause (BreaksBranch s place) (branches_of node))
        → IfErr result (TellsOfNode s)
    inner-tells P (Ok x) answer = tt
    inner-tells P (Err why) answer = inner-cause why answer

    module _ (k : ℕ) (ranks : List Rank) (old new : List Waiting) (put : ArePutIn k ranks (branch_item s l) (HasLiveChild s) (branches_of node) old new) where
      pub inner-few : Enqueues (nodes_of s) (CanVisit (CanOpen s) (CanMeasure s)) level old new
      inner-few = subst (λ (n : ℕ). Enqueues (nodes_of s) (CanVisit (CanOpen s) (CanMeasure s)) n old new) (sym inner) (record {
        put_in = put.put_in;
        added = put.added;
        visitable = put-visited k ranks (branch_item s l) (HasLiveChild s) (branches_of node) old new put (CanVisit (CanOpen s) (CanMeasure s))
            (λ b among live. record {
              ready = can.ready;
              live = live;
              part = λ known. child_within s.page_at s.root l place b (inner-part known) (there-branch b among known);
            });
        lighter = inner-light l _ _ (put-weighs k ranks (branch_item s l) (HasLiveChild s) (branches_of node) old new put (weight_of (nodes_of s)) (31 * 15 ^ l) (λ b. refl)) few-branches;
        fewer = inner-fewer l _ _ (put-weighs k ranks (branch_item s l) (HasLiveChild s) (branches_of node) old new put (most_of (nodes_of s)) (30 * 14 ^ l) (λ b. refl)) few-branches;
      })

      abbrev limbs : List Branch → List (Limb (Tree l))
      limbs bs = map (limb_at s.page_at l) bs

      abbrev candidates : List Entry → List Candidate
      candidates es = map (candidate_of s.cell_of s.asked) es

      branch-candidates : (bs : List Branch)
          → candidates (flat_map (λ (limb : Limb (Tree l)). list_of l limb.below) (limbs bs)) ≡ flat_map (candidates_under (nodes_of s)) (map (branch_item s l) bs)
      branch-candidates [] = refl
      branch-candidates (b ∷ bs) =
          let here = list_of l (tree_at s.page_at l b.child) in
          map-append (candidate_of s.cell_of s.asked) here (flat_map (λ (limb : Limb (Tree l)). list_of l limb.below) (limbs bs))
          ∙ ap (λ cs. candidates here ++ cs) (branch-candidates bs)

      branch-bounds : (bs : List Branch)
          → flat_map (λ (limb : Limb (Tree l)). bound_by s limb.branch ∷ bounds_below (bound_by s) l limb.below) (limbs bs)
          ≡ flat_map (bounds_under (nodes_of s)) (map (branch_item s l) bs)
      branch-bounds [] = refl
      branch-bounds (b ∷ bs) = ap (λ ms. (bound_by s b ∷ bounds_below (bound_by s) l (tree_at s.page_at l b.child)) ++ ms) (branch-bounds bs)

      branches-least : (bs : List Branch)
          → AllByRecursion (λ (limb : Limb (Tree l)).
          ReadBack s.axes s.bits s.cell_of (list_of l limb.below) limb.branch.low limb.branch.high × HaveCorners (ReadBack s.axes s.bits s.cell_of) l limb.below) (limbs bs)
          → AllByRecursion (IsLeast (nodes_of s) (IsSoundNode s)) (map (branch_item s l) bs)
      branches-least [] corners = tt
      branches-least (b ∷ bs) corners =
          let t = tree_at s.page_at l b.child in
          let back = corners.0.0 in
          let box = back.box in
          let same = sym (branch-bound s.axes s.bits s.cell_of s.asked (list_of l t) b.low b.high back) in
          let inside = each_in s.axes s.bits s.cell_of s.asked box (list_of l t) back.is.holds in (
            record {
              objects = subst (λ (m : ℕ). AllByRecursion (λ (c : Candidate). m ≤ c.bound) (candidates (list_of l t))) same
                  (candidates-bounded s.axes s.bits s.cell_of s.asked box (list_of l t) inside);
              bounds = (
                omega arith,
                subst (λ (m : ℕ). AllByRecursion (λ (n : ℕ). m ≤ n) (bounds_below (bound_by s) l t)) same
                    (bounds-bounded s.axes s.bits s.cell_of s.asked l box t inside corners.0.1),
              );
              sound = corners.0.1;
            },
            branches-least bs corners.1,
          )

      pub inner-rows : IsTrue s.is_known → Expands (nodes_of s) (IsSoundNode s) k ranks level place old new
      inner-rows known =
          let bs = branches_of node in
          let here = branches-here known in
          subst (λ (n : ℕ). Expands (nodes_of s) (IsSoundNode s) k ranks n place old new) (sym inner) (record {
            rows = map (branch_item s l) bs;
            objects = subst (λ (cs : List Candidate). IsPermutation cs (flat_map (candidates_under (nodes_of s)) (map (branch_item s l) bs)))
                (sym (branch-candidates bs) ∙ ap (λ (rs : List Branch). candidates (flat_map (λ (limb : Limb (Tree l)). list_of l limb.below) (limbs rs))) here)
                (IsPermutation-refl (flat_map (candidates_under (nodes_of s)) (map (branch_item s l) bs)));
            bounds = subst (λ (ms : List ℕ). IsPermutation ms (flat_map (bounds_under (nodes_of s)) (map (branch_item s l) bs)))
                (sym (branch-bounds bs)
                ∙ ap (λ (rs : List Branch). flat_map (λ (limb : Limb (Tree l)). bound_by s limb.branch ∷ bounds_below (bound_by s) l limb.below) (limbs rs)) here)
                (IsPermutation-refl (flat_map (bounds_under (nodes_of s)) (map (branch_item s l) bs)));
            least = λ sound. branches-least bs (subst (λ (rs : List Branch). AllByRecursion (λ (limb : Limb (Tree l)).
                ReadBack s.axes s.bits s.cell_of (list_of l limb.below) limb.branch.low limb.branch.high × HaveCorners (ReadBack s.axes s.bits s.cell_of) l limb.below) (limbs rs))
                (sym here) sound);
            put_in = put.put_in;
            left_out = put.left_out;
            parts = put.parts;
            added = put.added;
            shut = put.shut;
          })
