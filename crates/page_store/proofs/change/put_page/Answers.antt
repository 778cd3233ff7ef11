use Rattle.std.proofs.Common.{arith}
use Rattle.redo_journal.specs.Journal.{staged_of}
use Rattle.page_store.proofs.Staging.{absent_room}
use Rattle.page_store.proofs.change.put_page.Goals as goal

pub unreachable-requires : goal.unreachable-requires
unreachable-requires g c =
    let few = absent_room c.args.n (staged_of c.args.journal.now) c.in_default.ensures.stages.2 c.requires.room in
    omega (arith, few, c.in_default.ensures.stages.1)
