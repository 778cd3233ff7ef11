-- What queries ask of a shelf, and what they leave of it.
use Rattle.std.specs.Prelude.{◌≡◌, ℕ, ◌≤◌, List, length, get_or}
use Rattle.std.specs.List.{AllByRecursion}
use Rattle.metric_laws.specs.Objects.{Object}
use Rattle.page_laws.specs.Calls.{PagesStay}
use Rattle.page_laws.specs.Pages.{is_live}
use Rattle.page_laws.specs.declared.pages.Pages as pages
use Rattle.page_laws.specs.declared.root.Root.{Root}
use Rattle.curve_laws.specs.declared.curve.Curve as curve
use Rattle.bptree_node.specs.declared.layout.TheConstants.{HEIGHT_LIMIT}
use Rattle.object_file.specs.ObjectFile.{HasSlots}
use Rattle.object_file.specs.declared.shelf.Shelf.{Shelf}
use Rattle.pivot_map.specs.Rows.{ArePivots}
use Rattle.box_corner.specs.Shelves.{Held, HoldsCollection}

-- the root of the empty tree
abbrev pub no_root : Root
no_root = record { page = 0; height = 0 }

module _ {P C : Type 0} (ofPages : pages.Ghosts P) (ofCurve : curve.Ghosts C) where
  -- the root of a collection's curve tree
  abbrev pub root_of : Shelf P C → ℕ → Root
  root_of shelf collection = get_or shelf.roots collection no_root

  -- the shelf holds these objects as this collection
  abbrev pub Shelves : Shelf P C → ℕ → List Held → Type 0
  Shelves shelf collection held =
      HoldsCollection (ofCurve.axes shelf.curve.now) (ofCurve.bits shelf.curve.now) (ofCurve.key_of shelf.curve.now) (ofCurve.cell_of shelf.curve.now)
      (ofPages.page_at shelf.pages.now) (is_live (ofPages.in_pool shelf.pages.now) (ofPages.free shelf.pages.now)) shelf.objects.now collection
      (root_of shelf collection) held

  -- A shelf that may be asked, whatever its pages hold: the pivots are measured, the curve has a coordinate for each, the
  -- roots are low enough, and the pages of all slots are there.
  pub record CanAsk (admitted : Object → Type 0) (shelf : Shelf P C) : Type 0 where
    pub pivots : ArePivots admitted shelf.pivots.now
    pub axes : ofCurve.axes shelf.curve.now ≡ length shelf.pivots.now
    pub heights : AllByRecursion (λ (root : Root). root.height ≤ HEIGHT_LIMIT) shelf.roots
    pub slots : HasSlots (ofPages.has shelf.pages.now) shelf.objects.now.cap

  -- the shelf lends the same, with pages that stayed as they were
  pub record ShelfStays (old new : Shelf P C) : Type 0 where
    pub stay : PagesStay ofPages.is_known ofPages.has ofPages.in_pool ofPages.page_at ofPages.free ofPages.is_open ofPages.put_pages ofPages.calm old.pages.now new.pages.now
    pub name : new.pages.ghost_name ≡ old.pages.ghost_name
    pub objects : new.objects.now ≡ old.objects.now
    pub curve : new.curve.now ≡ old.curve.now
    pub pivots : new.pivots.now ≡ old.pivots.now
    pub roots : new.roots ≡ old.roots
