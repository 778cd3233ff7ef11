use Rattle.std.proofs.Common.{◌∙◌}
use Rattle.session.specs.Store.{state_of}
use Rattle.session.proofs.Sound.{at_place, holds_rows, are_rows, are_pivots}
use Rattle.session.proofs.store.Store.near.Goals as goal

pub near_of-requires-clause-query : goal.near_of-requires-clause-query
near_of-requires-clause-query g c = (c.requires.ruler.admits _).1 c.requires.query

pub near_of-requires-clause-pivots : goal.near_of-requires-clause-pivots
near_of-requires-clause-pivots g c =
    let ruler = g.R.Ruler in
    let kind = ruler.kind c.args.ruler.now in
    are_pivots c.args.self.now c.requires.sound (ruler.admitted kind) (ruler.dist kind) c.requires.ruler c.as_slice.result.now c.as_slice.ensures.value

pub near_of-requires-clause-rows : goal.near_of-requires-clause-rows
near_of-requires-clause-rows g c =
    let ruler = g.R.Ruler in
    let kind = ruler.kind c.args.ruler.now in
    let at = at_place c.args.self.now c.requires.sound c.args.c c.requires.collection c.index-self-c.result in
    are_rows c.args.self.now c.requires.sound c.args.c c.requires.collection (ruler.admitted kind) (ruler.dist kind) c.requires.ruler
    c.rows-rows.result.now c.as_slice.result.now (c.rows-rows.ensures.rows ∙ at) c.as_slice.ensures.value

pub returns-clause-reply : goal.returns-clause-reply
returns-clause-reply g c =
    let at = at_place c.args.self.now c.requires.sound c.args.c c.requires.collection c.index-self-c.result in
    c.near_of.ensures.reply (state_of c.args.self.now) c.requires.ruler
    (holds_rows c.args.self.now c.requires.sound c.args.c c.requires.collection c.rows-rows.result.now c.as_slice.result.now (c.rows-rows.ensures.rows
    ∙ at) c.as_slice.ensures.value)

pub returns-clause-object : goal.returns-clause-object
returns-clause-object g c = c.near_of.ensures.object c.args.self.now.space
