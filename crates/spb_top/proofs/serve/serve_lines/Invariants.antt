use Rattle.std.proofs.Common.{◌≡◌, ◌≤◌, ℕ, List, false}
use Rattle.spb_edge.specs.declared.reader.Line.{Line}
use Rattle.spb_edge.specs.Reader.{budget}
use Rattle.spb_defs.specs.State.{State}
use Rattle.spb_top.proofs.Running.{Serving, GoesOn}
use Rattle.spb_top.proofs.serve.serve_lines.Given as goal

-- the lines so far and what was written: what they are whatever state there is, and what they are to each state from
-- which the session began
abbrev pub invariant-loop-line : goal.invariant-loop-line
invariant-loop-line g l =
    let turns = g.T.Turns in
    (written : List ℕ) × ((lines : List Line) × record {
      name : l.reader.source.ghost_name ≡ l.initial.reader.source.ghost_name;
      session : turns.name l.session ≡ turns.name l.initial.session;
      told : turns.knows l.session ≡ turns.knows l.initial.session;
      space : turns.space l.session ≡ turns.space l.initial.session;
      running : turns.ended l.session ≡ false;
      disk : turns.faults l.initial.session ≤ turns.faults l.session;
      serving : Serving g.S.Source g.K.Sink l.initial.reader l.initial.output l.reader l.output written lines;
      goes_on : (first : State) → turns.holds l.initial.session first → GoesOn turns.holds turns.leaves first l.initial.session l.session written lines;
    })

abbrev pub decreases-loop-line : goal.decreases-loop-line
decreases-loop-line g l = budget l.reader
