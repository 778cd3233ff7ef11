use Rattle.std.proofs.Common.{◌≡◌, ℕ, ◌-◌, ◌*◌, ◌≤◌, List, IsTrue, length}
use Rattle.spb_edge.specs.Calls.{StaysKnown}
use Rattle.spb_edge.specs.Crash.{CrashesLeaveOnly}
use Rattle.store_format.specs.NewFile.{zero_page, HasPages, IsUnsigned}
use Rattle.store_format.proofs.steps.fill.Given as goal

-- the image is the pages before the next one; each crash state, now or since, begins with a zero byte
abbrev pub invariant-loop-next : goal.invariant-loop-next
invariant-loop-next g l = record {
  some : 1 ≤ l.next;
  within : l.next ≤ l.file.total;
  room : length l.piece ≡ length l.initial.piece;
  told : StaysKnown g.D.Disk.is_known g.D.Disk.knows_crashes l.initial.disk l.disk;
  size : g.D.Disk.size_of l.disk ≡ 512 * l.next;
  pages : IsTrue (g.D.Disk.is_known l.initial.disk) → g.D.Disk.image l.initial.disk ≡ zero_page → HasPages l.next l.file (g.D.Disk.image l.disk);
  crash : ((c : List ℕ) → g.D.Disk.crash_states l.initial.disk c → IsUnsigned c) → (c : List ℕ) → g.D.Disk.crash_states l.disk c → IsUnsigned c;
  any_moment : ((c : List ℕ) → g.D.Disk.crash_states l.initial.disk c → IsUnsigned c)
      → CrashesLeaveOnly g.D.Disk.moment g.D.Disk.crash_states_since l.initial.disk l.disk IsUnsigned;
  counted : g.D.Disk.faults l.initial.disk ≤ g.D.Disk.faults l.disk;
}

abbrev pub decreases-loop-next : goal.decreases-loop-next
decreases-loop-next g l = l.file.total - l.next
