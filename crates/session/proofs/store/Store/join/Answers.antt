use Rattle.std.proofs.Common.{refl, ◌∙◌}
use Rattle.session.specs.Store.{state_of}
use Rattle.session.proofs.Sound.{at_place, holds_rows, are_rows, are_pivots}
use Rattle.session.proofs.store.Store.join.Goals as goal

pub join_of-requires-clause-pivots : goal.join_of-requires-clause-pivots
join_of-requires-clause-pivots g c =
    let ruler = g.R.Ruler in
    let kind = ruler.kind c.args.ruler.now in
    are_pivots c.args.self.now c.requires.sound (ruler.admitted kind) (ruler.dist kind) c.requires.ruler c.as_slice.result.now c.as_slice.ensures.value

pub join_of-requires-clause-left : goal.join_of-requires-clause-left
join_of-requires-clause-left g c =
    let ruler = g.R.Ruler in
    let kind = ruler.kind c.args.ruler.now in
    let at = at_place c.args.self.now c.requires.sound c.args.c c.requires.left c.index-self-c.result in
    are_rows c.args.self.now c.requires.sound c.args.c c.requires.left (ruler.admitted kind) (ruler.dist kind) c.requires.ruler
    c.rows-left.result.now c.as_slice.result.now (c.rows-left.ensures.rows ∙ at) c.as_slice.ensures.value

pub join_of-requires-clause-right : goal.join_of-requires-clause-right
join_of-requires-clause-right g c =
    let ruler = g.R.Ruler in
    let kind = ruler.kind c.args.ruler.now in
    let at = at_place c.args.self.now c.requires.sound c.args.d c.requires.right c.index-self-d.result in
    are_rows c.args.self.now c.requires.sound c.args.d c.requires.right (ruler.admitted kind) (ruler.dist kind) c.requires.ruler
    c.rows-right.result.now c.as_slice.result.now (c.rows-right.ensures.rows ∙ at) c.as_slice.ensures.value

pub returns-clause-reply : goal.returns-clause-reply
returns-clause-reply g c =
    let at = at_place c.args.self.now c.requires.sound c.args.c c.requires.left c.index-self-c.result in
    let at' = at_place c.args.self.now c.requires.sound c.args.d c.requires.right c.index-self-d.result in
    c.join_of.ensures.reply (state_of c.args.self.now) c.requires.ruler refl
    (holds_rows c.args.self.now c.requires.sound c.args.c c.requires.left c.rows-left.result.now c.as_slice.result.now (c.rows-left.ensures.rows
    ∙ at) c.as_slice.ensures.value)
    (holds_rows c.args.self.now c.requires.sound c.args.d c.requires.right c.rows-right.result.now c.as_slice.result.now (c.rows-right.ensures.rows
    ∙ at') c.as_slice.ensures.value)

pub returns-clause-object : goal.returns-clause-object
returns-clause-object g c = c.join_of.ensures.object c.args.self.now.space
