-- What a shelf holds: a collection, by its curve tree and by slots.
use Rattle.std.specs.Prelude.{◌≡◌, ◌≢◌, ℕ, Bool, IsTrue, List, map, All, AllPairs}
use Rattle.page_laws.specs.declared.root.Root.{Root}
use Rattle.bptree_node.specs.declared.rows.Entry.{Entry}
use Rattle.bptree_node.specs.Summaries.{HasCorners}
use Rattle.bptree_node.specs.Trees.{IsTree, list_at}
use Rattle.curve_laws.specs.Grid.{IsCell}
use Rattle.metric_laws.specs.Objects.{Object, Distance}
use Rattle.spb_defs.specs.Pivots.{cells_of}
use Rattle.object_file.specs.Slots.{Holds}
use Rattle.object_file.specs.ObjectFile.{Slots, is_filled, slot_at}
use Rattle.box_corner.specs.Boxes.{joined}
use Rattle.box_corner.specs.CurveBoxes.{entry_box, keys_of}

-- an object of a collection: its id, its bytes, its cells, and the slot that it is in
pub record Held : Type 0 where
  pub id : ℕ
  pub object : List ℕ
  pub cells : List ℕ
  pub slot : ℕ

-- the entry that names it in the curve tree
abbrev pub entry_of : (List ℕ → ℕ) → Held → Entry
entry_of key_of h = record { key = key_of h.cells; id = h.id; slot = h.slot }

-- its id and its object
abbrev pub row_of : Held → ℕ × Object
row_of h = (h.id, h.object)

-- branches have the corners of the exact box around the cells of the keys under them
abbrev pub AreCurveCorners : (axes bits : ℕ) → (List ℕ → ℕ) → (ℕ → List ℕ) → List Entry → ℕ → ℕ → Type 0
AreCurveCorners axes bits key_of cell_of = HasCorners joined (entry_box axes bits cell_of) (keys_of key_of)

-- Pages and slots hold these objects as a collection: the root is that of a tree with exact boxes, none of whose pages is
-- free; its entries name the objects, by the curve keys of their cells and by filled slots that hold them; and no two
-- have the same id.
pub record HoldsCollection (axes bits : ℕ) (key_of : List ℕ → ℕ) (cell_of : ℕ → List ℕ) (pages : ℕ → List ℕ) (is_live : ℕ
    → Bool) (slots : Slots) (collection : ℕ) (root : Root) (held : List Held) : Type 0 where
  pub tree : IsTree (AreCurveCorners axes bits key_of cell_of) pages is_live root
  pub entries : list_at pages root ≡ map (entry_of key_of) held
  pub cells : All (λ (h : Held). IsCell axes bits h.cells) held
  pub filled : All (λ (h : Held). IsTrue (is_filled slots h.slot)) held
  pub objects : All (λ (h : Held). slot_at pages h.slot ≡ Holds collection h.id h.object) held
  pub ids : AllPairs (λ (a b : Held). a.id ≢ b.id) held

-- the objects are measured, and their cells are those by this distance and these pivots
pub record AreMeasured (admitted : Object → Type 0) (dist : Distance) (pivots : List Object) (held : List Held) : Type 0 where
  pub objects : All (λ (h : Held). admitted h.object) held
  pub cells : All (λ (h : Held). h.cells ≡ cells_of dist pivots h.object) held
