use Rattle.page_store.proofs.Worked.{two_free}
use Rattle.page_store.proofs.store.tests.pages_over.Goals as goal

pub new-requires-2-clause-free : goal.new-requires-2-clause-free
new-requires-2-clause-free g c = two_free
