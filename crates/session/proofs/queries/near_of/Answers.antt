use Rattle.std.proofs.Common.{ap, ◌∙◌}
use Rattle.spb_defs.specs.Scans.{near_answer}
use Rattle.pivot_map.specs.Rows.{entries_of}
use Rattle.session.proofs.QueryLaws.{near_said}
use Rattle.session.proofs.queries.near_of.Goals as goal

pub returns-clause-reply : goal.returns-clause-reply
returns-clause-reply g c = λ s metric holds.
    let ruler = g.R.Ruler in
    let kind = ruler.kind c.args.ruler.now in
    near_said (ruler.admitted kind) (ruler.dist kind) s metric c.args.pivots.now c.args.c c.args.k c.args.query.now c.args.rows.now c.in_ok-found.found holds
    (c.in_ok-found.ensures.answer ∙ ap (λ query. near_answer (ruler.dist kind) c.args.pivots.now (entries_of c.args.rows.now) query c.args.k)
    c.as_slice.ensures)
