use Rattle.std.proofs.Common.{◌≡◌, ◌≤◌, ◌*◌, ℕ, List, IsTrue, take}
use Rattle.std.specs.Map.{keys_of}
use Rattle.spb_edge.specs.Crash.{IsDurable, CrashesLeaveOnly}
use Rattle.redo_journal.specs.Redo.{DiffersWithin}
use Rattle.redo_journal.specs.Change.{AreInPlace}
use Rattle.redo_journal.proofs.moves.write_all_home.Given as goal

-- the first `place` pages are home; the image, and each crash state now or since, differs at most within the pages of
-- the change
abbrev pub invariant-loop-place : goal.invariant-loop-place
invariant-loop-place g l =
    (g.D.Disk.size_of l.disk ≡ 512 * l.staged.total)
    × (g.D.Disk.is_known l.disk ≡ g.D.Disk.is_known l.initial.disk) × (g.D.Disk.knows_crashes l.disk ≡ g.D.Disk.knows_crashes l.initial.disk)
    × (IsTrue (g.D.Disk.is_known l.initial.disk) → AreInPlace (take l.place l.staged.pages) (g.D.Disk.image l.disk))
    × (IsTrue (g.D.Disk.is_known l.initial.disk)
    → DiffersWithin l.staged.total (keys_of l.staged.pages) (g.D.Disk.image l.initial.disk) (g.D.Disk.image l.disk))
    × (IsTrue (g.D.Disk.is_known l.initial.disk) → IsDurable (g.D.Disk.image l.initial.disk) (g.D.Disk.crash_states l.initial.disk)
    → CrashesLeaveOnly g.D.Disk.moment g.D.Disk.crash_states_since l.initial.disk l.disk
    (DiffersWithin l.staged.total (keys_of l.staged.pages) (g.D.Disk.image l.initial.disk)))
    × (IsTrue (g.D.Disk.is_known l.initial.disk) → IsDurable (g.D.Disk.image l.initial.disk) (g.D.Disk.crash_states l.initial.disk)
    → (c : List ℕ) → g.D.Disk.crash_states l.disk c → DiffersWithin l.staged.total (keys_of l.staged.pages) (g.D.Disk.image l.initial.disk) c)
    × (IsTrue (g.D.Disk.is_known l.initial.disk) → g.D.Disk.reads l.disk ≡ g.D.Disk.reads l.initial.disk)
    × (g.D.Disk.faults l.initial.disk ≤ g.D.Disk.faults l.disk)
