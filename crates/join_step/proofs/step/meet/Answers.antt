use Rattle.std.proofs.Common.{◌∙◌, arith, length}
use Rattle.join_window.specs.WindowPairs.{reaches}
use Rattle.join_step.proofs.Judging.{few_kept, tallies-few, cells-kept}
use Rattle.join_step.proofs.step.meet.Goals as goal

pub judge_all-requires-clause-cells : goal.judge_all-requires-clause-cells
judge_all-requires-clause-cells g c =
    cells-kept (reaches c.args.entry.key) c.args.window.now c.entries.result.now c.args.curve.now.n (length c.in_ok-later.later.cell)
    (c.entries.ensures ∙ c.keep_reaching.ensures) c.in_ok-later.ensures.axes c.requires.cells

pub judge_all-requires-clause-room : goal.judge_all-requires-clause-room
judge_all-requires-clause-room g c =
    let few = few_kept (reaches c.args.entry.key) c.args.window.now c.entries.result.now (c.entries.ensures ∙ c.keep_reaching.ensures) in
    let room = c.requires.room in omega (arith, few, room)

pub judge_all-requires-clause-evals : goal.judge_all-requires-clause-evals
judge_all-requires-clause-evals g c =
    let few = few_kept (reaches c.args.entry.key) c.args.window.now c.entries.result.now (c.entries.ensures ∙ c.keep_reaching.ensures) in
    let room = c.requires.evals in omega (arith, few, room)

pub judge_all-requires-clause-sure : goal.judge_all-requires-clause-sure
judge_all-requires-clause-sure g c =
    let few = few_kept (reaches c.args.entry.key) c.args.window.now c.entries.result.now (c.entries.ensures ∙ c.keep_reaching.ensures) in
    let room = c.requires.sure in omega (arith, few, room)

pub returns-clause-tallies : goal.returns-clause-tallies
returns-clause-tallies g c =
    let few = few_kept (reaches c.args.entry.key) c.args.window.now c.entries.result.now (c.entries.ensures ∙ c.keep_reaching.ensures) in
    let ruler = g.R.Ruler in
    tallies-few (length c.entries.result.now) (length c.args.window.now) c.args.found.now c.judge_all.new.found (ruler.count c.args.ruler.now)
    (ruler.count c.judge_all.new.ruler) few c.in_ok-judge_all.ensures.tallies
