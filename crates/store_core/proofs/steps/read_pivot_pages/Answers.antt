use Rattle.std.proofs.Common.{◌≤◌, arith}
use Rattle.redo_journal.specs.Journal.{disk_of}
use Rattle.store_core.proofs.Sizes.{counts_no_fault}
use Rattle.store_core.proofs.steps.read_pivot_pages.Goals as goal

pub returns-clause-fault : goal.returns-clause-fault
returns-clause-fault g c =
    let later : g.D.Disk.faults (disk_of c.args.journal.now) ≤ g.D.Disk.faults (disk_of c.read_page-2.new.self) =
    omega (arith, c.in_ok-read_page.ensures.fault, c.in_ok-read_page-2.ensures.fault) in
    counts_no_fault c.pivots_of.result _ _ c.pivots_of.ensures.no_fault later
