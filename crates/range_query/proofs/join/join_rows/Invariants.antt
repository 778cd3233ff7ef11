use Rattle.std.proofs.Common.{◌≡◌, ◌++◌, drop, List}
use Rattle.pivot_map.specs.declared.row.Row.{Row}
use Rattle.query_pass.specs.Findings.{PassesOver, MeasuresOpen}
use Rattle.query_pass.specs.Pairs.{verdict_of_pair, pair_ids, pair_objects}
use Rattle.range_query.proofs.Passing.{passed}
use Rattle.range_query.proofs.join.join_rows.Given as goal

-- the pairs of the rows so far were passed over, and with those of the rows that are left they are all
abbrev pub invariant-loop-i : goal.invariant-loop-i
invariant-loop-i g l =
    let ruler = g.R.Ruler in
    let kind = ruler.kind l.fn.ruler in
    (seen : List (Row × Row)) × record {
      whole : seen ++ passed l.same (drop l.i l.left) l.right ≡ passed l.same l.left l.right;
      same_kind : ruler.kind l.ruler ≡ kind;
      found : PassesOver (verdict_of_pair (ruler.dist kind) l.r) pair_ids seen l.initial.found l.found;
      measured : MeasuresOpen (verdict_of_pair (ruler.dist kind) l.r) pair_objects seen (ruler.count l.fn.ruler) (ruler.log l.fn.ruler) (ruler.count l.ruler)
          (ruler.log l.ruler);
    }
