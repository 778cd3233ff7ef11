use Rattle.std.proofs.Common.{◌*◌, ◌∙◌, ap, take, drop}
use Rattle.std.proofs.lemmas.Result.{on_ok_weaker}
use Rattle.redo_journal.specs.Change.{page_entries}
use Rattle.redo_journal.proofs.Load.{images_read}
use Rattle.redo_journal.proofs.staged.Staged.load.Goals as goal

pub returns-clause-images : goal.returns-clause-images
returns-clause-images g c = λ tells.
    on_ok_weaker c.read_images.result (λ read. ap (page_entries 512 c.args.numbers.items) (read
    ∙ ap (λ n. take (512 * n) (drop 2560 (g.D.Disk.image c.args.disk.now))) c.len.ensures.value) ∙ images_read _ 5 c.args.numbers.items)
    (c.read_images.ensures.images tells)
