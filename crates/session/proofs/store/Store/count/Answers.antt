use Rattle.std.proofs.Common.{length, sym, ap, ◌∙◌}
use Rattle.session.proofs.Sound.{at_place, counted_in}
use Rattle.session.proofs.store.Store.count.Goals as goal

pub returns-clause-reply : goal.returns-clause-reply
returns-clause-reply c =
    sym (counted_in c.args.self.now c.requires.sound c.args.c c.requires.collection c.len.result
    (c.len.ensures ∙ ap length (at_place c.args.self.now c.requires.sound c.args.c c.requires.collection c.index-self-c.result)))
