use Rattle.std.proofs.Common.{◌∙◌}
use Rattle.session.specs.Store.{state_of}
use Rattle.session.proofs.Sound.{at_place, holds_rows, are_rows, are_pivots}
use Rattle.session.proofs.store.Store.range.Goals as goal

pub range_of-requires-clause-query : goal.range_of-requires-clause-query
range_of-requires-clause-query g c = (c.requires.ruler.admits _).1 c.requires.query

pub range_of-requires-clause-pivots : goal.range_of-requires-clause-pivots
range_of-requires-clause-pivots g c =
    let ruler = g.R.Ruler in
    let kind = ruler.kind c.args.ruler.now in
    are_pivots c.args.self.now c.requires.sound (ruler.admitted kind) (ruler.dist kind) c.requires.ruler c.as_slice.result.now c.as_slice.ensures.value

pub range_of-requires-clause-rows : goal.range_of-requires-clause-rows
range_of-requires-clause-rows g c =
    let ruler = g.R.Ruler in
    let kind = ruler.kind c.args.ruler.now in
    let at = at_place c.args.self.now c.requires.sound c.args.c c.requires.collection c.index-self-c.result in
    are_rows c.args.self.now c.requires.sound c.args.c c.requires.collection (ruler.admitted kind) (ruler.dist kind) c.requires.ruler
    c.rows-rows.result.now c.as_slice.result.now (c.rows-rows.ensures.rows ∙ at) c.as_slice.ensures.value

pub returns-clause-reply : goal.returns-clause-reply
returns-clause-reply g c =
    let at = at_place c.args.self.now c.requires.sound c.args.c c.requires.collection c.index-self-c.result in
    c.range_of.ensures.reply (state_of c.args.self.now) c.requires.ruler
    (holds_rows c.args.self.now c.requires.sound c.args.c c.requires.collection c.rows-rows.result.now c.as_slice.result.now (c.rows-rows.ensures.rows
    ∙ at) c.as_slice.ensures.value)

pub returns-clause-object : goal.returns-clause-object
returns-clause-object g c = c.range_of.ensures.object c.args.self.now.space
