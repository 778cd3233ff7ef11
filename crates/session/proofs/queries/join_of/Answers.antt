use Rattle.session.proofs.QueryLaws.{join_said}
use Rattle.session.proofs.queries.join_of.Goals as goal

pub returns-clause-reply : goal.returns-clause-reply
returns-clause-reply g c = λ s metric joined left right.
    let ruler = g.R.Ruler in
    let kind = ruler.kind c.args.ruler.now in
    join_said (ruler.admitted kind) (ruler.dist kind)
    s metric c.args.pivots.now c.args.c c.args.d c.args.radius c.args.left.now c.args.right.now c.in_ok-found.found joined left right
    c.in_ok-found.ensures.answer
