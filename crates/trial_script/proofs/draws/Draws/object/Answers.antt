use Rattle.std.proofs.Common.{◌≡◌, map, ap, ◌∙◌, rules, arith}
use Rattle.std.specs.List.{range_with_len}
use Rattle.metrics_builtin.specs.Vectors.{object_of_components}
use Rattle.trial_script.specs.Draws.{draw_state, draw}
use Rattle.trial_script.proofs.Drawing.{draw_state-start, drawn-start, draw_state-more, drawn-more, drawn_object-first}
use Rattle.trial_script.proofs.draws.Draws.object.Goals as goal

pub loop-init : goal.loop-init
loop-init c = record { state = draw_state-start c.args.self.now.state; object = search (rules, drawn-start c.args.self.now.state) }

pub loop-preserved : goal.loop-preserved
loop-preserved c =
    let seed = c.args.self.now.state in
    let kept = c.loop.invariant in record {
      state = draw_state-more seed c.loop.counter c.loop.self.state c.draw.new.self.state kept.state c.draw.ensures.state;
      object = search (
        rules,
        drawn-more seed c.loop.counter c.loop.self.state c.draw.new.self.state kept.state c.draw.ensures.state c.loop.object c.draw.result kept.object
            c.draw.ensures.drawn,
      );
    }

pub returns-clause-object : goal.returns-clause-object
returns-clause-object c =
    let seed = c.args.self.now.state in
    let four : c.loop.counter ≡ 4 = let end = c.loop-test.false in let few = c.loop.auto.counter-end in omega (arith, end, few) in
    drawn_object-first seed c.loop.object (c.loop.invariant.object ∙ ap (λ k. object_of_components (map (draw seed) (range_with_len 0 k))) four)

pub returns-clause-state : goal.returns-clause-state
returns-clause-state c =
    let four : c.loop.counter ≡ 4 = let end = c.loop-test.false in let few = c.loop.auto.counter-end in omega (arith, end, few) in
    c.loop.invariant.state ∙ ap (draw_state c.args.self.now.state) four
