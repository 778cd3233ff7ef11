use Rattle.std.proofs.Common.{◌≡◌, take}
use Rattle.query_pass.specs.Findings.{PassesOver, MeasuresOpen}
use Rattle.range_query.specs.Passes.{verdict_of_row}
use Rattle.range_query.proofs.rows.range_rows.Given as goal

-- the rows so far were passed over
abbrev pub invariant-loop-row : goal.invariant-loop-row
invariant-loop-row g l =
    let ruler = g.R.Ruler in
    let kind = ruler.kind l.fn.ruler in
    let seen = take l.row-index l.rows in record {
      same_kind : ruler.kind l.ruler ≡ kind;
      found : PassesOver (verdict_of_row (ruler.dist kind) l.asked l.q l.r) (λ row. row.id) seen l.initial.found l.found;
      measured : MeasuresOpen (verdict_of_row (ruler.dist kind) l.asked l.q l.r) (λ row. (l.q, row.object)) seen (ruler.count l.initial.ruler)
          (ruler.log l.initial.ruler) (ruler.count l.ruler) (ruler.log l.ruler);
    }
