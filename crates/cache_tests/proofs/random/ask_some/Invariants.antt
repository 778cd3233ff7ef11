use Rattle.std.proofs.Common.{◌≡◌, IsTrue}
use Rattle.cache_tests.proofs.random.ask_some.Given as goal

-- the open change and the disk's image stay
abbrev pub invariant-loop-turn : goal.invariant-loop-turn
invariant-loop-turn g l =
    (l.pages.pages.is_open ≡ l.fn.pages.pages.is_open)
    × (l.pages.pages.failed ≡ l.fn.pages.pages.failed)
    × (g.D.Disk.is_known l.pages.pages.disk ≡ g.D.Disk.is_known l.fn.pages.pages.disk)
    × (IsTrue (g.D.Disk.is_known l.fn.pages.pages.disk) → g.D.Disk.image l.pages.pages.disk ≡ g.D.Disk.image l.fn.pages.pages.disk)
