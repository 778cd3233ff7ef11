use Rattle.join_window.proofs.Reaches.{apart-beyond}
use Rattle.join_window.proofs.laws.later_entries_are_apart.Goals as goal

pub returns : goal.returns
returns c = λ v w radius first second beyond.
    apart-beyond c.args.curve.now.n c.args.curve.now.b radius v w (λ u cell up. c.keeps_order.ensures w u cell up) first second beyond
