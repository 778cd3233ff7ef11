use Rattle.std.proofs.Common.{◌≡◌, take}
use Rattle.query_pass.specs.Findings.{PassesOver, MeasuresOpen}
use Rattle.query_pass.specs.Pairs.{verdict_of_pair, pair_ids, pair_objects}
use Rattle.range_query.specs.Passes.{pairs_of}
use Rattle.range_query.proofs.join.pair_up.Given as goal

-- the pairs with the rows so far were passed over
abbrev pub invariant-loop-other : goal.invariant-loop-other
invariant-loop-other g l =
    let ruler = g.R.Ruler in
    let kind = ruler.kind l.fn.ruler in
    let seen = pairs_of l.same (take l.other-index l.others) l.row in record {
      same_kind : ruler.kind l.ruler ≡ kind;
      found : PassesOver (verdict_of_pair (ruler.dist kind) l.r) pair_ids seen l.fn.found l.found;
      measured : MeasuresOpen (verdict_of_pair (ruler.dist kind) l.r) pair_objects seen (ruler.count l.fn.ruler) (ruler.log l.fn.ruler) (ruler.count l.ruler)
          (ruler.log l.ruler);
    }
