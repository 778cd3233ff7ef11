-- Trees of one leaf, and trees of none.
use Rattle.std.proofs.Common.{◌≡◌, ℕ, suc, ◌+◌, ◌<◌, ◌==◌, Bool, List, [], ◌∷◌, length, get_or, refl, sym, ap, subst, ◌∙◌, arith}
use Rattle.std.specs.Prelude.{IsTrue, Some}
use Rattle.std.specs.List.{IsDistinct}
use Rattle.std.proofs.lemmas.List.{length-map}
use Rattle.answer_lists.specs.Order.{sorted_by}
use Rattle.answer_lists.specs.OrderLaws.{sorted_by-length}
use Rattle.scan_laws.specs.Tables.{key_before}
use Rattle.page_laws.specs.declared.root.Root.{Root}
use Rattle.bptree_node.specs.declared.rows.Entry.{Entry}
use Rattle.bptree_node.specs.Nodes.{Leaf, node_in}
use Rattle.bptree_node.specs.Trees.{node_entries, IsRising, IsTree, list_at, pages_at}
use Rattle.spb_defs.specs.State.{State}
use Rattle.store_check.specs.Profile.{no_root}
use Rattle.store_check.specs.Stands.{Placed, member_of, placed, placed_members, Keeps}
use Rattle.store_check.proofs.EmptyRoots.{to_all}
use Rattle.store_check.proofs.Reading.{read_in_range}
use Rattle.tree_state.specs.StoreCurves.{object_key, AreCurveCorners, AreIdCorners}
use Rattle.tree_state.specs.TreeEntries.{id_entries, curve_entries}
use Rattle.tree_state.specs.StoreTrees.{is_pool_page, tree_pages, KeepsTrees}

-- ---- one leaf

module _ (are_corners : List Entry → ℕ → ℕ → Type 0) (home : ℕ → List ℕ) (live : ℕ → Bool) (n : ℕ) (entries : List Entry) (is : node_in (home n) ≡ Some (Leaf entries)) where
  pub leaf-tree : IsRising entries → IsTrue (live n) → IsTree are_corners home live (record { page = n; height = 1 })
  unfolding IsDistinct
  leaf-tree rising alive =
      let are : node_entries (node_in (home n)) ≡ entries = ap node_entries is in
      record {
        tree = record {
          height = omega arith;
          sound = record { nodes = is ∙ ap (λ (es : List Entry). Some (Leaf es)) (sym are); filled = tt; firsts = tt };
          rising = subst IsRising (sym are) rising;
          distinct = (tt, tt);
          live = (alive, tt);
        };
        corners = tt;
      }

pub leaf-holds : (home : ℕ → List ℕ) (n : ℕ) (entries : List Entry) → node_in (home n) ≡ Some (Leaf entries)
    → (list_at home (record { page = n; height = 1 }) ≡ entries) × (pages_at home (record { page = n; height = 1 }) ≡ n ∷ [])
leaf-holds home n entries is = (ap node_entries is, refl)

-- ---- no trees

empty-tree : (are_corners : List Entry → ℕ → ℕ → Type 0) (home : ℕ → List ℕ) (live : ℕ → Bool) → IsTree are_corners home live no_root
unfolding IsDistinct
empty-tree are_corners home live = record {
  tree = record { height = omega arith; sound = refl; rising = tt; distinct = tt; live = tt };
  corners = tt;
}

none-placed : (ps : List Placed) → length ps ≡ 0 → ps ≡ []
none-placed [] none = refl
none-placed (p ∷ ps) none = absurd (omega (arith, none))

no-pages : (home : ℕ → List ℕ) (roots : List Root) → ((i : ℕ) → i < length roots → get_or roots i no_root ≡ no_root) → tree_pages home roots ≡ []
no-pages home [] none = refl
no-pages home (root ∷ roots) none =
    ap (λ (r : Root). tree_pages home (r ∷ roots)) (none 0 (omega arith)) ∙ no-pages home roots (λ i below. none (suc i) (omega (arith, below)))

pub empty-kept : (home : ℕ → List ℕ) (s : State) → Keeps home s → s.members ≡ [] → KeepsTrees home s
unfolding IsDistinct sorted_by
empty-kept home s keeps empty =
    let profile = keeps.profiled.profile in
    let range = read_in_range (home 1) profile keeps.profiled.reads in
    let roots : (i : ℕ) → i < 8 → get_or profile.roots i no_root ≡ no_root =
    λ i below. to_all profile.roots keeps.roots i no_root (omega (arith, below, range.trees.eight)) in
    let few : length (placed s.cap home) ≡ 0 =
    sym (length-map (placed s.cap home) member_of) ∙ sym (sorted_by-length key_before (placed_members s.cap home)) ∙ sym (ap length keeps.members.members_are) ∙ ap length empty in
    let none : placed s.cap home ≡ [] = none-placed (placed s.cap home) few in
    let tree : (are_corners : List Entry → ℕ → ℕ → Type 0) (i : ℕ) → i < 8 → IsTree are_corners home (is_pool_page profile.cap) (get_or profile.roots i no_root) =
    λ are_corners i below. subst (IsTree are_corners home (is_pool_page profile.cap)) (sym (roots i below)) (empty-tree are_corners home (is_pool_page profile.cap)) in
    let list : (i : ℕ) → i < 8 → list_at home (get_or profile.roots i no_root) ≡ [] = λ i below. ap (list_at home) (roots i below) in
    record {
      profiled = keeps.profiled;
      members = keeps.members;
      trees = record {
        each = λ c below. record {
          curve_tree = tree (AreCurveCorners profile) c (omega (arith, below));
          curve_list = list c (omega (arith, below)) ∙ sym (ap (curve_entries (object_key profile s.pivots) c) none);
          id_tree = tree AreIdCorners (4 + c) (omega (arith, below));
          id_list = list (4 + c) (omega (arith, below)) ∙ sym (ap (id_entries c) none);
        };
        distinct = subst (IsDistinct (λ a b. a == b))
            (sym (no-pages home profile.roots (λ i below. roots i (omega (arith, below, range.trees.eight))))) tt;
      };
    }
