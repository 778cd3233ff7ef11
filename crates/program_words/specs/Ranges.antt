-- The ranges of what words ask for.
use Rattle.std.specs.Prelude.{◌^◌, ◌<◌, ◌≤◌, IsTrue, Option, Some, None}
use Rattle.metrics_builtin.specs.Space.{fits}
use Rattle.spb_defs.specs.declared.Asked.{Asked}
use Rattle.spb_defs.specs.declared.Asked.TheVariants.{Mem, Make, Run, Check, Trial}
use Rattle.spb_defs.specs.declared.TheConstants.{PIVOT_LIMIT, MEMORY_CAP}

-- the numbers of what is asked for, if anything is, are in their ranges, and so are those of its space
abbrev pub IsInRange : Option Asked → Type 0
IsInRange None = Unit {0}
IsInRange (Some (Mem setup)) = IsTrue (fits setup.space) × (setup.pivots ≤ PIVOT_LIMIT)
IsInRange (Some (Make curve pivots cap space)) = IsTrue (fits space) × (1 ≤ pivots) × (pivots ≤ PIVOT_LIMIT) × (1 ≤ cap) × (cap ≤ MEMORY_CAP)
IsInRange (Some Run) = Unit {0}
IsInRange (Some Check) = Unit {0}
IsInRange (Some (Trial seed count)) = (seed < 2 ^ 64) × (1 ≤ count) × (count ≤ MEMORY_CAP)
