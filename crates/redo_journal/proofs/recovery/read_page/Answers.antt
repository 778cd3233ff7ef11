use Rattle.std.proofs.Common.{◌≡◌, length, rules}
use Rattle.std.proofs.lemmas.Result.{on_ok_weaker}
use Rattle.redo_journal.proofs.Pages.{page_read}
use Rattle.redo_journal.proofs.recovery.read_page.Goals as goal

pub returns-clause-data : goal.returns-clause-data
returns-clause-data g c = λ tells.
    let whole : length c.args.into.now ≡ 512 = search rules in
    on_ok_weaker c.read_piece.result (page_read _ _ c.args.n _ whole) (c.read_piece.ensures.data tells)
