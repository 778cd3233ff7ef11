use Rattle.std.proofs.Common.{[], arith}
use Rattle.std.proofs.lemmas.List.Sorted.{IsPermutation-refl}
use Rattle.near_search.specs.Items.{items_of}
use Rattle.nn_query.proofs.rows.RowsHierarchy.open.Goals as goal

pub returns-clause-few : goal.returns-clause-few
returns-clause-few c =
    record {
      put_in = [];
      added = IsPermutation-refl (items_of c.args._queue.now);
      visitable = tt;
      lighter = omega arith;
      fewer = omega arith;
    }

pub returns-clause-rows : goal.returns-clause-rows
returns-clause-rows c = λ known.
    record {
      rows = [];
      objects = IsPermutation-refl [];
      bounds = IsPermutation-refl [];
      least = λ sound. tt;
      put_in = [];
      left_out = [];
      parts = IsPermutation-refl [];
      added = IsPermutation-refl (items_of c.args._queue.now);
      shut = tt;
    }
