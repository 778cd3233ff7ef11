-- Where a page breaks a rule of a store's trees and slots.
use Rattle.std.specs.Prelude.{◌≡◌, ◌⊎◌, ℕ, ◌<◌, true, false, List}
use Rattle.metric_laws.specs.Objects.{Object}
use Rattle.page_laws.specs.declared.errors.TreeError.{TreeError}
use Rattle.page_laws.specs.declared.errors.TreeError.TheVariants as tree
use Rattle.page_laws.specs.declared.rule.Rule.TheVariants as rule
use Rattle.bptree_node.specs.declared.summary.NoBox.{NoBox}
use Rattle.object_file.specs.Slots.{Free}
use Rattle.object_file.specs.ObjectFile.{slot_at, slot_page}
use Rattle.box_corner.specs.Boxes.{joined}
use Rattle.box_corner.specs.CurveBoxes as boxes
use Rattle.box_corner.specs.IdBoxes as ids
use Rattle.store_check.specs.declared.profile.Profile.{Profile}
use Rattle.tree_check.specs.PageSets.{Marks, uses}
use Rattle.tree_state.specs.StoreCurves.{profile_key, profile_cell}
use Rattle.tree_state.specs.StoreTrees.{is_pool_page}
use Rattle.slot_notes.specs.declared.notes.SlotNote.{SlotNote}
use Rattle.slot_notes.specs.Notes.{AreNotes}
use Rattle.image_trees.specs.Trees.{times_before, named_before, HasMismatch}

-- in a curve tree the page named breaks the rule named
pub record HasCurveMismatch (home : ℕ → List ℕ) (profile : Profile) (notes : List SlotNote) (why : TreeError) : Type 0 where
  pub used : Marks
  pub none : (m : ℕ) → uses used m ≡ 0
  pub broken : HasMismatch joined (boxes.entry_box profile.pivots profile.bits (profile_cell profile)) (boxes.keys_of (profile_key profile)) notes true home (is_pool_page profile.cap) profile.roots 0
      used why

-- the same of an id tree, where the pages of the curve trees are used
pub record HasIdMismatch (home : ℕ → List ℕ) (profile : Profile) (notes : List SlotNote) (why : TreeError) : Type 0 where
  pub used : Marks
  pub those : (m : ℕ) → uses used m ≡ times_before home profile.roots 0 4 m
  pub broken : HasMismatch {S = NoBox} (λ a _. a) ids.entry_box (λ _. (0, 0)) notes false home (is_pool_page profile.cap) profile.roots 4 used why

-- the page is that of a slot which isn't free, and which no curve tree names
pub record HasLeftSlot (home : ℕ → List ℕ) (profile : Profile) (why : TreeError) : Type 0 where
  pub slot : ℕ
  pub below : slot < profile.cap
  pub unnamed : named_before home profile.roots 0 4 slot ≡ false
  pub filled : slot_at home slot ≡ Free → ⊥
  pub tells : why ≡ tree.Damaged (slot_page slot) rule.Slot

-- a slot is named by trees of one kind alone
pub record HasOtherSlot (home : ℕ → List ℕ) (profile : Profile) (why : TreeError) : Type 0 where
  pub slot : ℕ
  pub below : slot < profile.cap
  pub differs : named_before home profile.roots 0 4 slot ≡ named_before home profile.roots 4 4 slot → ⊥
  pub tells : why ≡ tree.Damaged 1 rule.Match

-- a page breaks a rule, by the notes of the slots
pub record IsBroken (home : ℕ → List ℕ) (profile : Profile) (pivots : List Object) (why : TreeError) : Type 0 where
  pub notes : List SlotNote
  pub are : AreNotes profile pivots home profile.cap notes
  pub rule_broken : HasCurveMismatch home profile notes why ⊎ (HasIdMismatch home profile notes why ⊎ (HasLeftSlot home profile why ⊎ HasOtherSlot home profile why))
