-- What is under the nodes of a curve tree, as a search for the nearest goes through it.
use Rattle.std.specs.Prelude.{ℕ, zero, suc, ◌*◌, ◌^◌, Bool, true, false, List, [], ◌∷◌, map, Option, Some, None}
use Rattle.std.specs.List.{flat_map}
use Rattle.page_laws.specs.Pages.{is_live}
use Rattle.page_laws.specs.declared.pages.Pages as pages
use Rattle.page_laws.specs.declared.root.Root.{Root}
use Rattle.curve_laws.specs.declared.curve.Curve as curve
use Rattle.bptree_node.specs.declared.rows.Entry.{Entry}
use Rattle.bptree_node.specs.declared.rows.Branch.{Branch}
use Rattle.bptree_node.specs.Trees.{Tree, Limb, tree_at, list_of, HaveCorners}
use Rattle.object_file.specs.Slots.{Slot, Free, Holds, Broken}
use Rattle.object_file.specs.ObjectFile.{Slots, slot_at}
use Rattle.spb_defs.specs.Pivots.{lower_bound}
use Rattle.box_corner.specs.Boxes.{Box, box_bound}
use Rattle.box_corner.specs.CurveBoxes.{branch_box, ReadBack}
use Rattle.near_search.specs.declared.queue.Kind.TheVariants.{Node}
use Rattle.near_search.specs.declared.queue.Waiting.{Waiting}
use Rattle.near_search.specs.Queue.{Candidate, Nodes, as_waiting}
use Rattle.shelf_tree.specs.declared.tree.CurveTree.{CurveTree}

-- What a search goes through: the pages, of which what they hold counts if it is known, and those that are live; the
-- slots; the curve's axes, bits and cells; the query's distances to the pivots; the collection and the root of its tree.
pub record TreeContent : Type 0 where
  pub is_known : Bool
  pub page_at : ℕ → List ℕ
  pub has : ℕ → Bool
  pub is_live : ℕ → Bool
  pub slots : Slots
  pub axes : ℕ
  pub bits : ℕ
  pub cell_of : ℕ → List ℕ
  pub asked : List ℕ
  pub collection : ℕ
  pub root : Root

-- what the pages hold, or nothing if that isn't known
abbrev pub known_pages : Bool → (ℕ → List ℕ) → ℕ → List ℕ
known_pages true pages n = pages n
known_pages false pages n = []

module _ {P C : Type 0} (ofPages : pages.Ghosts P) (ofCurve : curve.Ghosts C) where
  abbrev pub content_of : CurveTree P C → TreeContent
  content_of t = record {
    is_known = ofPages.is_known t.pages.now;
    page_at = known_pages (ofPages.is_known t.pages.now) (ofPages.page_at t.pages.now);
    has = ofPages.has t.pages.now;
    is_live = is_live (ofPages.in_pool t.pages.now) (ofPages.free t.pages.now);
    slots = t.objects.now;
    axes = ofCurve.axes t.curve.now;
    bits = ofCurve.bits t.curve.now;
    cell_of = ofCurve.cell_of t.curve.now;
    asked = t.asked.now;
    collection = t.collection;
    root = t.root;
  }

-- ---- bounds

-- the bound of a box, or 0 if there is none
abbrev pub bound_of_found : List ℕ → Option Box → ℕ
bound_of_found asked (Some box) = box_bound asked box
bound_of_found asked None = 0

-- the bound of the box that a branch keeps
abbrev pub branch_bound : (axes bits : ℕ) → (ℕ → List ℕ) → List ℕ → Branch → ℕ
branch_bound axes bits cell_of asked b = bound_of_found asked (branch_box axes bits cell_of b.low b.high)

-- the bounds of the boxes of all branches under a node, at every depth
abbrev pub bounds_below : (Branch → ℕ) → (l : ℕ) → Tree l → List ℕ
bounds_below bound zero t = []
bounds_below bound (suc l) t = flat_map (λ (limb : Limb (Tree l)). bound limb.branch ∷ bounds_below bound l limb.below) t.limbs

-- an entry as an object to be measured, with the lower bound of its cell
abbrev pub candidate_of : (ℕ → List ℕ) → List ℕ → Entry → Candidate
candidate_of cell_of asked e = record { bound = lower_bound asked (cell_of e.key); id = e.id; place = e.slot }

-- ---- what is under the nodes

abbrev pub bound_by : TreeContent → Branch → ℕ
bound_by s b = branch_bound s.axes s.bits s.cell_of s.asked b

-- a node at a level weighs more than its 30 entries or 14 children together
abbrev pub nodes_of : TreeContent → Nodes
nodes_of s = record {
  objects = λ level place. map (candidate_of s.cell_of s.asked) (list_of level (tree_at s.page_at level place));
  bounds = λ level place. bounds_below (bound_by s) level (tree_at s.page_at level place);
  weight = λ level. 31 * 15 ^ level;
  most = λ level. 30 * 14 ^ level;
}

-- the object in a slot, if there is one
abbrev pub object_in : Slot → List ℕ
object_in (Holds collection id object) = object
object_in Free = []
object_in Broken = []

abbrev pub object_at_slot : TreeContent → ℕ → List ℕ
object_at_slot s slot = object_in (slot_at s.page_at slot)

-- the corners of the branches under the node are those of the exact boxes around what is under them
abbrev pub IsSoundNode : TreeContent → ℕ → ℕ → Type 0
IsSoundNode s level place = HaveCorners (ReadBack s.axes s.bits s.cell_of) level (tree_at s.page_at level place)

-- ---- the items of the queue

-- an entry and a branch as items
abbrev pub entry_item : TreeContent → Entry → Waiting
entry_item s e = as_waiting (candidate_of s.cell_of s.asked e)

abbrev pub branch_item : TreeContent → ℕ → Branch → Waiting
branch_item s level b = record { bound = bound_by s b; kind = Node level; place = b.child }
