use Rattle.std.proofs.Common.{◌∙◌, sym}
use Rattle.store_check.specs.Stands.{store_magic}
use Rattle.store_core.proofs.Sizes.{magic_compared}
use Rattle.store_core.proofs.paging.has_magic.Goals as goal

pub returns-clause-magic : goal.returns-clause-magic
returns-clause-magic g c = λ tells.
    let compared = magic_compared (g.D.Disk.image c.args.disk.now) c.read_piece.new.into store_magic (c.in_ok-read_piece.ensures.data tells) in
    (λ is. compared.0 (sym c.eq.ensures ∙ is), λ is. c.eq.ensures ∙ compared.1 is)
