use Rattle.std.proofs.Common.{inl, inr, List, [], ◌∷◌, ℕ, refl, arith}
use Rattle.spb_edge.specs.Moments.{weaker}
use Rattle.spb_defs.specs.State.{State}
use Rattle.spb_defs.specs.Step.{next_state}
use Rattle.open_store.specs.Answers.{StandsForEither}
use Rattle.spb_top.specs.Turns.{StandsForOne}
use Rattle.spb_top.proofs.turns.FileSessionTurns.turn.Goals as goal

of_either : (s t : State) (c : List ℕ) → StandsForEither s t c → StandsForOne (s ∷ t ∷ []) c
of_either s t c (inl stands) = (s, (0, omega arith, refl), stands)
of_either s t c (inr stands) = (t, (1, omega arith, refl), stands)

pub returns-clause-any_moment : goal.returns-clause-any_moment
returns-clause-any_moment g c = λ s holds.
    let disk = g.D.Disk in
    let old = c.args.self.now.store.pages.disk in
    let new = c.turn.new.self.store.pages.disk in
    let t = next_state s c.args.line.now in
    record {
      told = c.turn.ensures.told;
      crashes = λ known.
          weaker disk.moment disk.crash_states_since old new (StandsForEither s t) (StandsForOne (s ∷ t ∷ [])) (of_either s t)
          (c.turn.ensures.any_moment s holds.stands known (holds.durable known));
    }
