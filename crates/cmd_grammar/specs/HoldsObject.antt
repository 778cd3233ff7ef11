-- What a reply holds.
use Rattle.metrics_builtin.specs.declared.Space.{Space}
use Rattle.metrics_builtin.specs.Space.{IsValid}
use Rattle.spb_defs.specs.declared.Reply.{Reply}
use Rattle.spb_defs.specs.declared.Reply.TheVariants.{Done, Exists, Absent, Full, Curve, Late, Object, Count, Range, Near, Join, Bad, Long}

-- an object that the reply holds is one of the space
abbrev pub HoldsObject : Space → Reply → Type 0
HoldsObject space Done = Unit {0}
HoldsObject space Exists = Unit {0}
HoldsObject space Absent = Unit {0}
HoldsObject space Full = Unit {0}
HoldsObject space Curve = Unit {0}
HoldsObject space Late = Unit {0}
HoldsObject space (Object object) = IsValid space object
HoldsObject space (Count many) = Unit {0}
HoldsObject space (Range ids evals sure) = Unit {0}
HoldsObject space (Near rows evals) = Unit {0}
HoldsObject space (Join pairs evals sure) = Unit {0}
HoldsObject space (Bad failed) = Unit {0}
HoldsObject space Long = Unit {0}
