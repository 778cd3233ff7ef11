use Rattle.std.proofs.Common.{◌*◌, ℕ, subst}
use Rattle.spb_edge.specs.Crash.{IsTornWrite}
use Rattle.redo_journal.proofs.Settle.{page_goes_home}
use Rattle.redo_journal.proofs.moves.write_home.Goals as goal

pub returns-clause-crash : goal.returns-clause-crash
returns-clause-crash g c = λ total numbers start long within among from image left.
    let step = c.write_piece.ensures.crash image left in
    page_goes_home total c.args.n numbers start step.0 image within long among (from step.0 step.1)
    (subst (λ (m : ℕ). IsTornWrite (512 * c.args.n) m step.0 image) c.requires.page step.2)

pub returns-clause-differs : goal.returns-clause-differs
returns-clause-differs g c = λ tells total numbers start long within among from.
    page_goes_home total c.args.n numbers start (g.D.Disk.image c.args.disk.now) (g.D.Disk.image c.write_piece.new.disk) within long among from
    (subst (λ (m : ℕ). IsTornWrite (512 * c.args.n) m (g.D.Disk.image c.args.disk.now) (g.D.Disk.image c.write_piece.new.disk)) c.requires.page
    (c.write_piece.ensures.torn tells))
