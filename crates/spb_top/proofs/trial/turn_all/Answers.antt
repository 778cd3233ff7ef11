use Rattle.std.proofs.Common.{[], ◌∷◌, ◌++◌, refl, subst, arith}
use Rattle.trial_script.specs.Lines.{GivesNext}
use Rattle.spb_top.proofs.Trying.{Tries-start, Keeps-next, left_on}
use Rattle.spb_top.proofs.trial.turn_all.Goals as goal

pub loop-next-init : goal.loop-next-init
loop-next-init g c =
    let session = c.args.session.now in
    let met = g.met.T.Turns in (
      [],
      record {
        sums = c.none-totals.ensures;
        name = refl;
        told = refl;
        space = refl;
        running = c.requires.open;
        faults = omega arith;
        tries = λ first held. Tries-start g.T.Turns met.leaves_more session first c.args.lines.now held (met.leaves_same session first held);
      },
    )

pub returns-in_err-reply-clause-any_moment : goal.returns-in_err-reply-clause-any_moment
returns-in_err-reply-clause-any_moment g c = λ first held.
    let met = g.met.T.Turns in
    let (said, kept) = c.loop-next.invariant in
    let gives = subst (λ next. GivesNext next c.loop-next.lines c.next_line.new.self) c.in-Some.is c.in-Ok.ensures.ok in
    let so_far = kept.tries first held in
    left_on g.T.Turns met.leaves_more met.leaves_joined c.args.session.now c.loop-next.session c.reply_or_stop.new.session c.args.lines.now c.loop-next.lines
    c.next_line.new.self said c.in-Some.line gives.0 first so_far (c.reply_or_stop.ensures.any_moment so_far.state so_far.held)

pub loop-next-preserved-in_ok-reply : goal.loop-next-preserved-in_ok-reply
loop-next-preserved-in_ok-reply g c =
    let met = g.met.T.Turns in
    let (said, kept) = c.loop-next.invariant in
    let gives = subst (λ next. GivesNext next c.loop-next.lines c.next_line.new.self) c.in-Some.is c.in-Ok.ensures.ok in
    let turn = c.in_ok-reply.ensures in (
      said ++ c.in_ok-reply.reply ∷ [],
      Keeps-next g.T.Turns met.leaves_more met.leaves_joined c.args.session.now c.loop-next.session c.reply_or_stop.new.session c.args.lines.now
          c.loop-next.lines c.next_line.new.self said c.in-Some.line gives.0 c.loop-next.totals c.add.new.self kept c.in_ok-reply.reply
          (c.add.ensures said kept.sums) turn.name turn.told turn.space turn.open turn.stops turn.reply turn.next turn.any_moment,
    )

pub loop-next-preserved : goal.loop-next-preserved
loop-next-preserved g c =
    let met = g.met.T.Turns in
    let (said, kept) = c.loop-next.invariant in
    let gives = subst (λ next. GivesNext next c.loop-next.lines c.next_line.new.self) c.in-Some.is c.in-Ok.ensures.ok in
    let turn = c.in_ok-reply.ensures in (
      said ++ c.in_ok-reply.reply ∷ [],
      Keeps-next g.T.Turns met.leaves_more met.leaves_joined c.args.session.now c.loop-next.session c.reply_or_stop.new.session c.args.lines.now
          c.loop-next.lines c.next_line.new.self said c.in-Some.line gives.0 c.loop-next.totals c.add.new.self kept c.in_ok-reply.reply
          (c.add.ensures said kept.sums) turn.name turn.told turn.space turn.open turn.stops turn.reply turn.next turn.any_moment,
    )
