use Rattle.std.proofs.Common.{ap, ◌∙◌}
use Rattle.spb_defs.specs.Scans.{range_answer}
use Rattle.pivot_map.specs.Rows.{entries_of}
use Rattle.session.proofs.QueryLaws.{range_said}
use Rattle.session.proofs.queries.range_of.Goals as goal

pub returns-clause-reply : goal.returns-clause-reply
returns-clause-reply g c = λ s metric holds.
    let ruler = g.R.Ruler in
    let kind = ruler.kind c.args.ruler.now in
    range_said (ruler.admitted kind) (ruler.dist kind)
    s metric c.args.pivots.now c.args.c c.args.radius c.args.query.now c.args.rows.now c.in_ok-found.found holds
    (c.in_ok-found.ensures.answer ∙ ap (λ query. range_answer (ruler.dist kind) c.args.pivots.now (entries_of c.args.rows.now) query c.args.radius)
    c.as_slice.ensures)
