-- A box by its fields.
use Rattle.std.specs.Prelude.{◌≡◌}
use Rattle.std.proofs.Common.{refl}
use Rattle.curve_laws.specs.Vectors.{IsUpTo}
use Rattle.box_corner.specs.declared.rect.Rect.TheInside.{Inside}
use Rattle.box_corner.specs.Boxes.{Box}

abbrev pub box_of_fields : Inside → Box
box_of_fields r = record { low = r.low; high = r.high }

-- the low corner exceeds the high one nowhere
abbrev pub IsRect : Inside → Type 0
IsRect r = IsUpTo r.low r.high

abbrev pub fields_of : Box → Inside
fields_of box = record { low = box.low; high = box.high }

pub fields_back : (r : Inside) → IsRect r → fields_of (box_of_fields r) ≡ r
fields_back r is = refl
