-- What pages with trees hold, and what images stand for whose trees name their objects.
use Rattle.std.specs.Prelude.{◌≡◌, ℕ, ◌+◌, ◌<◌, ◌==◌, Bool, List, slice_index_or}
use Rattle.std.specs.List.{flat_map, IsDistinct}
use Rattle.metric_laws.specs.Objects.{Object}
use Rattle.redo_journal.specs.declared.layout.TheConstants.{FIRST_HOME}
use Rattle.redo_journal.specs.Redo.{RecoversTo}
use Rattle.page_laws.specs.declared.root.Root.{Root}
use Rattle.free_list.specs.FreeNumbers.{is_within}
use Rattle.bptree_node.specs.Trees.{IsTree, list_at, pages_at}
use Rattle.spb_defs.specs.State.{State}
use Rattle.store_check.specs.declared.profile.Profile.{Profile}
use Rattle.store_check.specs.Layout.{slot_pages, pool_pages, file_pages}
use Rattle.store_check.specs.Profile.{no_root}
use Rattle.store_check.specs.Stands.{Placed, placed, HoldsMembers, IsProfiled, store_magic}
use Rattle.tree_state.specs.StoreCurves.{object_key, AreCurveCorners, AreIdCorners}
use Rattle.tree_state.specs.TreeEntries.{id_entries, curve_entries}

-- ---- the pages of trees

-- the first page of the pool of a file for so many objects
abbrev pub first_pool_page : ℕ → ℕ
first_pool_page cap = FIRST_HOME + slot_pages cap

-- whether a page is of the pool
abbrev pub is_pool_page : ℕ → ℕ → Bool
is_pool_page cap = is_within (first_pool_page cap) (pool_pages cap)

-- the root of a collection's curve tree, and that of its id tree
abbrev pub curve_root : List Root → ℕ → Root
curve_root roots c = slice_index_or roots c no_root

abbrev pub id_root : List Root → ℕ → Root
id_root roots c = slice_index_or roots (4 + c) no_root

-- the pages of all trees, those of each tree together
abbrev pub tree_pages : (ℕ → List ℕ) → List Root → List ℕ
tree_pages home roots = flat_map (pages_at home) roots

-- ---- the trees of a store

-- The two trees of a collection, with exact boxes on pages of the pool: their entries are those of the collection's
-- objects, each with the slot that it is in.
pub record HasTrees (home : ℕ → List ℕ) (profile : Profile) (pivots : List Object) (slots : List Placed) (c : ℕ) : Type 0 where
  pub curve_tree : IsTree (AreCurveCorners profile) home (is_pool_page profile.cap) (curve_root profile.roots c)
  pub curve_list : list_at home (curve_root profile.roots c) ≡ curve_entries (object_key profile pivots) c slots
  pub id_tree : IsTree AreIdCorners home (is_pool_page profile.cap) (id_root profile.roots c)
  pub id_list : list_at home (id_root profile.roots c) ≡ id_entries c slots

-- the trees of each collection, no two of which have a page in common
pub record AreTrees (home : ℕ → List ℕ) (profile : Profile) (pivots : List Object) (slots : List Placed) : Type 0 where
  pub each : (c : ℕ) → c < 4 → HasTrees home profile pivots slots c
  pub distinct : IsDistinct (λ a b. a == b) (tree_pages home profile.roots)

-- ---- states

-- the pages hold the state, and trees that name its members
pub record KeepsTrees (home : ℕ → List ℕ) (s : State) : Type 0 where
  pub profiled : IsProfiled home s
  pub members : HoldsMembers s.space s.cap home s.members
  pub trees : AreTrees home profiled.profile s.pivots (placed s.cap home)

-- The image stands for the state: a recovery would leave it with the magic, the length that belongs to the cap, and pages
-- that hold the state and its trees. The gate may be open.
pub record StandsOnTrees (image : List ℕ) (s : State) : Type 0 where
  pub home : ℕ → List ℕ
  pub has : RecoversTo (file_pages s.cap) image store_magic home
  pub keeps : KeepsTrees home s
