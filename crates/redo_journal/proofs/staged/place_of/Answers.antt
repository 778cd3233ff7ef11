use Rattle.std.proofs.lemmas.List.Sorted.{searched}
use Rattle.redo_journal.proofs.staged.place_of.Goals as goal

pub returns : goal.returns
returns c = searched c.args.numbers.now c.args.n _ c.binary_search.ensures.position c.requires
