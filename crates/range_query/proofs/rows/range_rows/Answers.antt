use Rattle.std.proofs.Common.{List, refl, subst, ◌∙◌, arith}
use Rattle.std.proofs.lemmas.List.{take_all}
use Rattle.pivot_map.specs.BoundLaws.{bounds_hold}
use Rattle.pivot_map.specs.declared.row.Row.{Row}
use Rattle.query_pass.specs.Findings.{PassesOver, MeasuresOpen}
use Rattle.range_query.specs.Passes.{verdict_of_row}
use Rattle.range_query.proofs.Ends.{each_row, range-answer, range-log}
use Rattle.range_query.proofs.rows.range_rows.Goals as goal

pub returns-clause-answer : goal.returns-clause-answer
returns-clause-answer g c =
    let ruler = g.R.Ruler in
    let kind = ruler.kind c.args.ruler.now in
    let bounds = bounds_hold (ruler.admitted kind) (ruler.dist kind) (g.met.R.Ruler.ruler_laws kind) c.args.pivots.now c.requires.pivots.objects in
    let all = take_all c.loop-row.row-index c.args.rows.now (omega arith) in
    let found = subst (λ (seen : List Row). PassesOver (verdict_of_row (ruler.dist kind) c.map_object-asked.result c.args.q.now c.args.r)
    (λ (row : Row). row.id) seen c.new-found.result c.loop-row.found) all c.loop-row.invariant.found in
    range-answer (ruler.admitted kind) (ruler.dist kind) c.args.pivots.now bounds c.args.rows.now
    (each_row (ruler.admitted kind) (ruler.dist kind) c.args.pivots.now c.args.rows.now c.requires.rows)
    c.args.q.now c.map_object-asked.result c.args.r c.requires.query c.map_object-asked.ensures.vector
    c.new-found.result c.loop-row.found c.new-found.ensures.kept c.new-found.ensures.evals c.new-found.ensures.sure found _ _ (c.from.ensures
    ∙ c.arrange_ids.ensures) refl

pub returns-clause-log : goal.returns-clause-log
returns-clause-log g c =
    let ruler = g.R.Ruler in
    let kind = ruler.kind c.args.ruler.now in
    let bounds = bounds_hold (ruler.admitted kind) (ruler.dist kind) (g.met.R.Ruler.ruler_laws kind) c.args.pivots.now c.requires.pivots.objects in
    let all = take_all c.loop-row.row-index c.args.rows.now (omega arith) in
    let asked = c.map_object-asked.new.ruler in
    let now = c.loop-row.ruler in
    let measured = subst (λ (seen : List Row). MeasuresOpen (verdict_of_row (ruler.dist kind) c.map_object-asked.result c.args.q.now c.args.r)
    (λ (row : Row). (c.args.q.now, row.object)) seen (ruler.count asked) (ruler.log asked) (ruler.count now) (ruler.log now))
    all c.loop-row.invariant.measured in
    range-log (ruler.admitted kind) (ruler.dist kind) c.args.pivots.now bounds c.args.rows.now
    (each_row (ruler.admitted kind) (ruler.dist kind) c.args.pivots.now c.args.rows.now c.requires.rows)
    c.args.q.now c.map_object-asked.result c.args.r c.requires.query c.map_object-asked.ensures.vector
    (ruler.log c.args.ruler.now) (ruler.count asked) (ruler.log asked) (ruler.count now) (ruler.log now) c.map_object-asked.ensures.log measured
