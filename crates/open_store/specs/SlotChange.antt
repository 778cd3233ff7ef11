-- A change of one slot in pages over a disk.
use Rattle.std.specs.Prelude.{◌≡◌, ◌⊎◌, ℕ, false, List, [], ◌∷◌}
use Rattle.std.specs.List.Sorted.{IsPermutation}
use Rattle.redo_journal.specs.Redo.{RecoversTo}
use Rattle.page_store.specs.PageStore.{PagesView}
use Rattle.object_file.specs.Slots.{Slot}
use Rattle.object_file.specs.ObjectFile.{SetsSlot}

-- the image stands for pages that have this content in the slot and are otherwise these
pub record HasSlotSet (total slot : ℕ) (content : Slot) (marks : List ℕ) (pages : ℕ → List ℕ) (image : List ℕ) : Type 0 where
  pub home : ℕ → List ℕ
  pub has : RecoversTo total image marks home
  pub sets : SetsSlot slot content pages home

-- the same of a slot that was free
pub record HasSlotFilled (total : ℕ) (free : List ℕ) (content : Slot) (marks : List ℕ) (pages : ℕ → List ℕ) (image : List ℕ) : Type 0 where
  pub slot : ℕ
  pub rest : List ℕ
  pub was_free : IsPermutation free (slot ∷ rest)
  pub after : HasSlotSet total slot content marks pages image

-- an image that stands for the pages without a slot filled, or with it
abbrev pub IsFilledOrNot : ℕ → List ℕ → Slot → List ℕ → (ℕ → List ℕ) → List ℕ → Type 0
IsFilledOrNot total free content marks pages image = RecoversTo total image marks pages ⊎ HasSlotFilled total free content marks pages image

-- an image that stands for the pages without a slot set, or with it
abbrev pub IsSetOrNot : ℕ → ℕ → Slot → List ℕ → (ℕ → List ℕ) → List ℕ → Type 0
IsSetOrNot total slot content marks pages image = RecoversTo total image marks pages ⊎ HasSlotSet total slot content marks pages image

module _ {D : Type 0} where
  -- the reference to the disk, its pages, the pool and the free pages of it are the same
  pub record HasSamePool (old new : PagesView D) : Type 0 where
    pub same_name : new.name ≡ old.name
    pub same_total : new.total ≡ old.total
    pub same_first : new.first ≡ old.first
    pub same_count : new.count ≡ old.count
    pub same_free : new.free ≡ old.free

  -- no change is open, no commit failed, and no page is staged
  pub record IsReady (pages : PagesView D) : Type 0 where
    pub shut : pages.is_open ≡ false
    pub sound : pages.failed ≡ false
    pub none : pages.staged ≡ []
