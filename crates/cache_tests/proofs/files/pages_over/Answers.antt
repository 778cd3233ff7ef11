use Rattle.cache_tests.proofs.NoneFree.{none_free}
use Rattle.cache_tests.proofs.files.pages_over.Goals as goal

pub new-requires-3-clause-free : goal.new-requires-3-clause-free
new-requires-3-clause-free g c = none_free
