-- Two rows, or two entries, with the lesser id on the left.
use Rattle.std.specs.Prelude.{nat_lt, if◌then◌else◌}
use Rattle.spb_defs.specs.Scans.{Entry}
use Rattle.join_window.specs.declared.window.Reaching.{Reaching}
use Rattle.join_step.specs.declared.placing.Placing.TheVariants.{ByIds}
use Rattle.join_step.specs.Meetings.{placed}

-- the two rows, the one with the lesser id first
abbrev pub lesser_left : Entry × Entry → Entry × Entry
lesser_left p = if nat_lt p.1.0 p.0.0 then (p.1, p.0) else (p.0, p.1)

-- the two entries, the one with the lesser id first
abbrev pub lesser_first : Reaching × Reaching → Reaching × Reaching
lesser_first p = placed ByIds p.0 p.1

-- the rows of two entries
abbrev pub both : (Reaching → Entry) → Reaching × Reaching → Entry × Entry
both row p = (row p.0, row p.1)
