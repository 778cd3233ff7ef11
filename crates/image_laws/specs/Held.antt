-- Slots and trees that hold a store's objects.
use Rattle.std.specs.Prelude.{◌≡◌, ℕ, ◌<◌, ◌^◌, Bool, true, false, IsTrue, List}
use Rattle.std.specs.List.{IsDistinct}
use Rattle.std.specs.Map.{keys_of}
use Rattle.std.specs.Ordering.{eq_by_cmp}
use Rattle.metric_laws.specs.Objects.{Object}
use Rattle.spb_defs.specs.State.{key_cmp}
use Rattle.metrics_builtin.specs.Space.{IsValid}
use Rattle.bptree_node.specs.declared.rows.Entry.{Entry}
use Rattle.object_file.specs.Slots.{Holds}
use Rattle.object_file.specs.ObjectFile.{slot_at}
use Rattle.tree_state.specs.StoreCurves.{object_key, profile_key, profile_cell}
use Rattle.store_check.specs.declared.profile.Profile.{Profile}
use Rattle.store_check.specs.Stands.{placed, placed_members, IsReadable}
use Rattle.tree_state.specs.StoreTrees.{is_pool_page, AreTrees}
use Rattle.bptree_node.specs.declared.summary.NoBox.{NoBox}
use Rattle.box_corner.specs.Boxes.{joined}
use Rattle.box_corner.specs.CurveBoxes as boxes
use Rattle.box_corner.specs.IdBoxes as ids
use Rattle.tree_check.specs.PageSets.{Marks, has, uses}
use Rattle.slot_notes.specs.declared.notes.SlotNote.{SlotNote}
use Rattle.image_trees.specs.Trees.{AreMatched}

-- each slot below the cap is readable, no two hold the same collection and id, and the trees name what they hold
pub record HoldsTrees (home : ℕ → List ℕ) (profile : Profile) (pivots : List Object) : Type 0 where
  pub readable : (slot : ℕ) → slot < profile.cap → IsReadable profile.space (slot_at home slot)
  pub distinct : IsDistinct (eq_by_cmp key_cmp) (keys_of (placed_members profile.cap home))
  pub trees : AreTrees home profile pivots (placed profile.cap home)

-- what a matched entry's slot holds
pub record IsHeldBy (home : ℕ → List ℕ) (profile : Profile) (pivots : List Object) (c : ℕ) (by_key : Bool) (e : Entry) : Type 0 where
  pub object : Object
  pub below : e.slot < profile.cap
  pub holds : slot_at home e.slot ≡ Holds c e.id object
  pub small : e.id < 2 ^ 32
  pub valid : IsValid profile.space object
  pub key : IsTrue by_key → e.key ≡ object_key profile pivots object

-- the four curve trees are matched, where no page was used before; the slots that they name are these
pub record AreCurveTrees (home : ℕ → List ℕ) (profile : Profile) (notes : List SlotNote) (before after named : Marks) : Type 0 where
  pub unused : (m : ℕ) → uses before m ≡ 0
  pub unnamed : Marks
  pub none : (m : ℕ) → has unnamed m ≡ false
  pub trees : AreMatched joined (boxes.entry_box profile.pivots profile.bits (profile_cell profile)) (boxes.keys_of (profile_key profile)) notes true home (is_pool_page profile.cap) profile.roots 0 profile.cap 4
      before after unnamed named

-- and so are the four id trees
pub record AreIdTrees (home : ℕ → List ℕ) (profile : Profile) (notes : List SlotNote) (before after named : Marks) : Type 0 where
  pub unnamed : Marks
  pub none : (m : ℕ) → has unnamed m ≡ false
  pub trees : AreMatched {S = NoBox} (λ a _. a) ids.entry_box (λ _. (0, 0)) notes false home (is_pool_page profile.cap) profile.roots 4 profile.cap 4 before after unnamed named
