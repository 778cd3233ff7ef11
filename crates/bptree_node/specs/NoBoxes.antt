-- Nothing is kept: the laws of joining.
use Rattle.std.proofs.Common.{refl}
use Rattle.bptree_node.specs.declared.summary.NoBox.{NoBox}
use Rattle.bptree_node.specs.Summaries.{IsJoin}

pub no_join_laws : IsJoin {S = NoBox} (λ _. 0) (λ a _. a)
no_join_laws = record {
  one_size = λ a b same. refl;
  associative = λ a b c same next. refl;
  commutative = λ a b same. refl;
  idempotent = λ a. refl;
}
