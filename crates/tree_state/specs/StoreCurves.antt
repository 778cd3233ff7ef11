-- The curve of a store: the keys of its objects, and the boxes of its trees.
use Rattle.std.specs.Prelude.{◌≡◌, ℕ, List}
use Rattle.metric_laws.specs.Objects.{Object}
use Rattle.metrics_builtin.specs.Space.{dist}
use Rattle.z_curve.specs.ZOrder.{z_key, z_cell}
use Rattle.hilbert_curve.specs.Curve.{hilbert_key, hilbert_cell}
use Rattle.spb_defs.specs.declared.CurveKind.{CurveKind}
use Rattle.spb_defs.specs.declared.CurveKind.TheVariants.{Z, Hilbert}
use Rattle.spb_defs.specs.Pivots.{cells_of}
use Rattle.store_check.specs.declared.profile.Profile.{Profile}
use Rattle.bptree_node.specs.declared.rows.Entry.{Entry}
use Rattle.bptree_node.specs.declared.summary.NoBox.{NoBox}
use Rattle.bptree_node.specs.Summaries.{HasCorners}
use Rattle.box_corner.specs.IdBoxes as ids
use Rattle.box_corner.specs.Shelves as shelves

-- the key of a cell on a curve of this kind, and the cell of a key
abbrev pub key_on : CurveKind → (axes bits : ℕ) → List ℕ → ℕ
key_on Z axes bits = z_key bits
key_on Hilbert axes bits = hilbert_key axes bits

abbrev pub cell_on : CurveKind → (axes bits : ℕ) → ℕ → List ℕ
cell_on Z axes bits = z_cell axes bits
cell_on Hilbert axes bits = hilbert_cell axes bits

-- the same on the curve of a profile, which has an axis for each pivot
abbrev pub profile_key : Profile → List ℕ → ℕ
profile_key profile = key_on profile.curve profile.pivots profile.bits

abbrev pub profile_cell : Profile → ℕ → List ℕ
profile_cell profile = cell_on profile.curve profile.pivots profile.bits

-- a curve is that of a profile
pub record IsCurveOf (axes bits : ℕ) (key_of : List ℕ → ℕ) (cell_of : ℕ → List ℕ) (profile : Profile) : Type 0 where
  pub axes_are : axes ≡ profile.pivots
  pub bits_are : bits ≡ profile.bits
  pub keys_are : key_of ≡ profile_key profile
  pub cells_are : cell_of ≡ profile_cell profile

-- the key of an object: that of the cells of its distances to the pivots
abbrev pub object_key : Profile → List Object → Object → ℕ
object_key profile pivots object = profile_key profile (cells_of (dist profile.space) pivots object)

-- what the branches of a store's trees have as corners: in a curve tree those of the exact box around the cells of the
-- keys under them, in an id tree 0
abbrev pub AreCurveCorners : Profile → List Entry → ℕ → ℕ → Type 0
AreCurveCorners profile = shelves.AreCurveCorners profile.pivots profile.bits (profile_key profile) (profile_cell profile)

abbrev pub AreIdCorners : List Entry → ℕ → ℕ → Type 0
AreIdCorners = HasCorners {S = NoBox} (λ a _. a) ids.entry_box (λ _. (0, 0))
