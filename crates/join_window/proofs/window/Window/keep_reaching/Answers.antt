use Rattle.std.proofs.Common.{rules}
use Rattle.std.proofs.lemmas.Fn.{filter_same}
use Rattle.join_window.specs.WindowPairs.{reaches}
use Rattle.join_window.proofs.window.Window.keep_reaching.Goals as goal

pub returns : goal.returns
returns c =
    let kept = filter_same _ (reaches c.args.key) _ (λ x b f k. search rules) _ _ c.retain.ensures.filtered in search (rules, kept)
