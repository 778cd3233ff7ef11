-- Pages that are alike where a change may replace them hold the same state and the same trees.
use Rattle.std.proofs.Common.{◌≡◌, inl, inr, ℕ, suc, ◌+◌, ◌-◌, ◌<◌, ◌==◌, List, [], ◌∷◌, ◌++◌, length, get_or, refl, sym, ap, ap₂, subst, ◌∙◌, arith}
use Rattle.std.specs.Prelude.{IsTrue, map}
use Rattle.std.specs.List.{flat_map, AllByRecursion, IsDistinct}
use Rattle.std.specs.Map.{keys_of}
use Rattle.std.specs.Ordering.{eq_by_cmp}
use Rattle.std.proofs.lemmas.Bool.{cases_lt}
use Rattle.std.proofs.lemmas.Bool.Decides.{nat_tests}
use Rattle.answer_lists.specs.Order.{sorted_by}
use Rattle.metric_laws.specs.Objects.{Object}
use Rattle.metrics_builtin.specs.declared.Space.{Space}
use Rattle.spb_defs.specs.State.{Members, State, key_cmp}
use Rattle.scan_laws.specs.Tables.{key_before}
use Rattle.redo_journal.specs.Pages.{IsHome}
use Rattle.redo_journal.specs.Redo.{redo_page}
use Rattle.page_laws.specs.declared.root.Root.{Root}
use Rattle.object_file.specs.ObjectFile.{slot_at}
use Rattle.bptree_node.specs.declared.rows.Entry.{Entry}
use Rattle.bptree_node.specs.Lists.{all-weaker}
use Rattle.bptree_node.specs.Trees.{IsTree, list_of, pages_of, list_at, pages_at}
use Rattle.bptree_node.specs.TreeLaws.{AreSame, root-stays, is_tree-stays}
use Rattle.store_check.specs.declared.profile.Profile.{Profile}
use Rattle.store_check.specs.Layout.{file_pages}
use Rattle.store_check.specs.Profile.{no_root, profile_in}
use Rattle.store_check.specs.Stands.{Placed, member_of, placed, IsReadable, HoldsMembers}
use Rattle.store_check.proofs.Placed.{placed-same}
use Rattle.store_check.proofs.Reading.{read_in_range}
use Rattle.store_check.proofs.Standing.{home_profile, slot_same, pivot_same}
use Rattle.tree_state.specs.StoreCurves.{AreCurveCorners, AreIdCorners}
use Rattle.tree_state.specs.StoreTrees.{is_pool_page, curve_root, id_root, HasTrees, AreTrees, KeepsTrees, StandsOnTrees}

-- ---- pages of the pool

-- a change may replace them
pub home_pool : (cap n : ℕ) → IsTrue (is_pool_page cap n) → IsHome (file_pages cap) n
home_pool cap n is = inr (grind (arith, nat_tests, is), grind (arith, nat_tests, is))

module _ (home other : ℕ → List ℕ) (cap : ℕ) (same : (n : ℕ) → IsHome (file_pages cap) n → other n ≡ home n) where
  -- ---- slots

  placed_same : placed cap other ≡ placed cap home
  placed_same = placed-same cap (slot_at home) (slot_at other) (slot_same home other cap same)

  members_moved : (space : Space) (members : Members) → HoldsMembers space cap home members → HoldsMembers space cap other members
  members_moved space members holds = record {
    readable = λ slot below. subst (IsReadable space) (sym (slot_same home other cap same slot below)) (holds.readable slot below);
    distinct = subst (λ (ps : List Placed). IsDistinct (eq_by_cmp key_cmp) (keys_of (map member_of ps))) (sym placed_same) holds.distinct;
    members_are = holds.members_are ∙ ap (λ (ps : List Placed). sorted_by key_before (map member_of ps)) (sym placed_same);
  }

  -- ---- trees

  pool_same : (pages : List ℕ) → AllByRecursion (λ n. IsTrue (is_pool_page cap n)) pages → AreSame home other pages
  pool_same pages live = all-weaker (λ n. IsTrue (is_pool_page cap n)) (λ n. home n ≡ other n) (λ n is. sym (same n (home_pool cap n is))) pages live

  tree_moved : (are_corners : List Entry → ℕ → ℕ → Type 0) (root : Root) → IsTree are_corners home (is_pool_page cap) root
      → IsTree are_corners other (is_pool_page cap) root
  tree_moved are_corners root is =
      is_tree-stays home other are_corners (is_pool_page cap) (is_pool_page cap) root (pool_same (pages_at home root) is.tree.live) is.tree.live is

  list_same : (are_corners : List Entry → ℕ → ℕ → Type 0) (root : Root) → IsTree are_corners home (is_pool_page cap) root → list_at other root ≡ list_at home root
  list_same are_corners root is = root-stays home other [] list_of root.height root.page (pool_same (pages_at home root) is.tree.live)

  pages_same : (are_corners : List Entry → ℕ → ℕ → Type 0) (root : Root) → IsTree are_corners home (is_pool_page cap) root → pages_at other root ≡ pages_at home root
  pages_same are_corners root is = root-stays home other [] pages_of root.height root.page (pool_same (pages_at home root) is.tree.live)

-- ---- the eight trees

-- what is the same of each of the roots is the same of them together
flat_same : (f g : Root → List ℕ) (roots : List Root) → ((i : ℕ) → i < length roots → f (get_or roots i no_root) ≡ g (get_or roots i no_root))
    → flat_map f roots ≡ flat_map g roots
flat_same f g [] same = refl
flat_same f g (root ∷ roots) same = ap₂ (λ (xs ys : List ℕ). xs ++ ys) (same 0 (omega arith))
    (flat_same f g roots (λ i below. same (suc i) (omega (arith, below))))

module _ (home other : ℕ → List ℕ) (profile : Profile) (pivots : List Object) (old new : List Placed) (placed_are : new ≡ old)
    (same : (n : ℕ) → IsHome (file_pages profile.cap) n → other n ≡ home n) where
  has_moved : (c : ℕ) → HasTrees home profile pivots old c → HasTrees other profile pivots new c
  has_moved c has = subst (λ (ps : List Placed). HasTrees other profile pivots ps c) (sym placed_are) (record {
    curve_tree = tree_moved home other profile.cap same (AreCurveCorners profile) (curve_root profile.roots c) has.curve_tree;
    curve_list = list_same home other profile.cap same (AreCurveCorners profile) (curve_root profile.roots c) has.curve_tree ∙ has.curve_list;
    id_tree = tree_moved home other profile.cap same AreIdCorners (id_root profile.roots c) has.id_tree;
    id_list = list_same home other profile.cap same AreIdCorners (id_root profile.roots c) has.id_tree ∙ has.id_list;
  })

  each_same : AreTrees home profile pivots old → (i : ℕ) → i < 8 → pages_at other (get_or profile.roots i no_root) ≡ pages_at home (get_or profile.roots i no_root)
  each_same trees i below = elim (cases_lt i 4) [
    | inl curve ↦ pages_same home other profile.cap same (AreCurveCorners profile) (curve_root profile.roots i) (trees.each i curve).curve_tree
    | inr least ↦
        let place : 4 + (i - 4) ≡ i = omega (arith, least) in
        subst (λ k. pages_at other (get_or profile.roots k no_root) ≡ pages_at home (get_or profile.roots k no_root)) place
        (pages_same home other profile.cap same AreIdCorners (id_root profile.roots (i - 4)) (trees.each (i - 4) (omega (arith, least, below))).id_tree)
  ]

  pub trees_moved : length profile.roots ≡ 8 → AreTrees home profile pivots old → AreTrees other profile pivots new
  trees_moved eight trees = record {
    each = λ c below. has_moved c (trees.each c below);
    distinct = subst (IsDistinct (λ a b. a == b))
        (sym (flat_same (pages_at other) (pages_at home) profile.roots (λ i below. each_same trees i (omega (arith, below, eight))))) trees.distinct;
  }

-- ---- states

pub moved : (home other : ℕ → List ℕ) (s : State) → KeepsTrees home s → ((n : ℕ) → IsHome (file_pages s.cap) n → other n ≡ home n) → KeepsTrees other s
moved home other s keeps same =
    let p = keeps.profiled in
    let range = read_in_range (home 1) p.profile p.reads in
    record {
      profiled = record {
        profile = p.profile;
        reads = ap profile_in (same 1 (home_profile (file_pages s.cap))) ∙ p.reads;
        space = p.space;
        curve = p.curve;
        cap = p.cap;
        count = p.count;
        pivots = record { few = p.pivots.few; each = λ i below. pivot_same home other s.cap same i below ∙ p.pivots.each i below };
        objects = p.objects;
        samples = p.samples;
        wanted = p.wanted;
      };
      members = members_moved home other s.cap same s.space s.members keeps.members;
      trees = trees_moved home other p.profile s.pivots (placed s.cap home) (placed s.cap other) (placed_same home other s.cap same)
          (subst (λ (k : ℕ). (n : ℕ) → IsHome (file_pages k) n → other n ≡ home n) p.cap same) range.trees.eight keeps.trees;
    }

-- a recovery leaves pages that hold the state and its trees
pub redone : (image : List ℕ) (s : State) → StandsOnTrees image s → KeepsTrees (redo_page image) s
redone image s stands = moved stands.home (redo_page image) s stands.keeps stands.has.pages_are
