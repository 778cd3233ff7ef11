-- What a trial keeps from line to line: what was answered so far, and the session, by the lines that are left.
use Rattle.std.proofs.Common.{◌≡◌, ⊎_elim, zero, suc, ◌≤◌, false, List, [], ◌∷◌, ◌++◌, refl, sym, ap, subst, ◌∙◌, append_assoc, arith}
use Rattle.std.specs.List.{Contains}
use Rattle.std.proofs.lemmas.List.Elements.{Contains-append_cases}
use Rattle.spb_edge.specs.declared.reader.Line.{Line}
use Rattle.spb_defs.specs.declared.Reply.{Reply}
use Rattle.spb_defs.specs.State.{State}
use Rattle.spb_defs.specs.Step.{reply, next_state}
use Rattle.spb_defs.specs.Changes.{state_after_lines}
use Rattle.trial_script.specs.declared.totals.Totals.{Totals}
use Rattle.trial_script.specs.Totals.{replies_of, totals_of, capped}
use Rattle.spb_top.specs.declared.turns.Turns as turns
use Rattle.spb_top.specs.Turns.{states_through}
use Rattle.spb_top.proofs.Answered.{first_through}

-- what is among some states is among them and one before
behind : (s t : State) (states : List State) → Contains states t → Contains (s ∷ states) t
behind s t states (k, inside, is) = (suc k, omega (arith, inside), is)

-- the two states of one turn are among those of all lines
two_through : (s : State) (line : Line) (lines : List Line) (t : State) → Contains (s ∷ next_state s line ∷ []) t
    → Contains (states_through s (line ∷ lines)) t
two_through s line lines t (zero, inside, is) = (0, omega arith, is)
two_through s line lines t (suc zero, inside, is) =
    let next = next_state s line in
    subst (Contains (states_through s (line ∷ lines))) is (behind s next (states_through next lines) (first_through next lines))
two_through s line lines t (suc (suc k), inside, is) = absurd (omega (arith, inside))

module _ {T : Type 0} (G : turns.Ghosts T) where
  -- By the state from which the session began: the session goes on from a state, from which the lines that are left lead
  -- through states of all lines, and have the replies that are missing so far.
  pub record Tries (first : State) (session session' : T) (lines lines' : List Line) (said : List Reply) : Type 0 where
    pub state : State
    pub held : G.holds session' state
    pub replies : replies_of first lines ≡ said ++ replies_of state lines'
    pub after : state_after_lines first lines ≡ state_after_lines state lines'
    pub among : (t : State) → Contains (states_through state lines') t → Contains (states_through first lines) t
    pub left : G.leaves session session' (states_through first lines)

  -- the sums over the replies so far, and the session, which hasn't ended
  pub record Keeps (session session' : T) (lines lines' : List Line) (totals : Totals) (said : List Reply) : Type 0 where
    pub sums : totals ≡ capped (totals_of said)
    pub name : G.name session' ≡ G.name session
    pub told : G.knows session' ≡ G.knows session
    pub space : G.space session' ≡ G.space session
    pub running : G.ended session' ≡ false
    pub faults : G.faults session ≤ G.faults session'
    pub tries : (first : State) → G.holds session first → Tries first session session' lines lines' said

  -- what was left of a crash is among more states
  abbrev pub LeavesMore : Type 0
  LeavesMore = (a b : T) (xs ys : List State) → ((s : State) → Contains xs s → Contains ys s) → G.leaves a b xs → G.leaves a b ys

  abbrev pub LeavesJoined : Type 0
  LeavesJoined = (a b c : T) (xs ys : List State) → G.leaves a b xs → G.leaves b c ys → G.leaves a c (xs ++ ys)

  module _ (more : LeavesMore) where
    -- before the first line
    pub Tries-start : (session : T) (first : State) (lines : List Line) → G.holds session first → G.leaves session session (first ∷ [])
        → Tries first session session lines lines []
    Tries-start session first lines held left = record {
      state = first;
      held = held;
      replies = refl;
      after = refl;
      among = λ t has. has;
      left = more session session (first ∷ []) (states_through first lines) only left;
    }
      where
        only : (t : State) → Contains (first ∷ []) t → Contains (states_through first lines) t
        only t (zero, inside, is) = subst (Contains (states_through first lines)) is (first_through first lines)
        only t (suc k, inside, is) = absurd (omega (arith, inside))

    module _ (joined : LeavesJoined) (session now new : T) (lines lines' lines'' : List Line) (said : List Reply) (line : Line) (next : lines' ≡ line ∷ lines'') where
      module _ (first : State) (so_far : Tries first session now lines lines' said)
          (turn : G.leaves now new (so_far.state ∷ next_state so_far.state line ∷ [])) where
        -- a turn more, whether it is answered or not
        pub left_on : G.leaves session new (states_through first lines)
        left_on =
            let s = so_far.state in
            let all = states_through first lines in
            let two = s ∷ next_state s line ∷ [] in
            let more_states : (t : State) → Contains two t → Contains all t =
            λ t is. so_far.among t (subst (λ ls. Contains (states_through s ls) t) (sym next) (two_through s line lines'' t is)) in
            more session new (all ++ two) all (λ t has. ⊎_elim (λ was. was) (more_states t) (Contains-append_cases all two t has))
            (joined session now new all two so_far.left turn)

        Tries-next : G.holds new (next_state so_far.state line) → (answer : Reply) → answer ≡ reply so_far.state line
            → Tries first session new lines lines'' (said ++ answer ∷ [])
        Tries-next held answer is =
            let s = so_far.state in
            let t = next_state s line in
            record {
              state = t;
              held = held;
              replies =
                  so_far.replies ∙ ap (λ ls. said ++ replies_of s ls) next ∙ ap (λ r. said ++ r ∷ replies_of t lines'') (sym is)
                  ∙ sym (append_assoc said (answer ∷ []) (replies_of t lines''));
              after = so_far.after ∙ ap (state_after_lines s) next;
              among = λ u has. so_far.among u
                  (subst (λ ls. Contains (states_through s ls) u) (sym next) (behind s u (states_through t lines'') has));
              left = left_on;
            }

      -- a line more, which was answered
      pub Keeps-next : (totals totals' : Totals) → Keeps session now lines lines' totals said → (answer : Reply)
          → totals' ≡ capped (totals_of (said ++ answer ∷ [])) → G.name new ≡ G.name now → G.knows new ≡ G.knows now → G.space new ≡ G.space now → G.ended new ≡ false
          → G.faults now ≤ G.faults new → ((s : State) → G.holds now s → answer ≡ reply s line) → ((s : State) → G.holds now s → G.holds new (next_state s line))
          → ((s : State) → G.holds now s → G.leaves now new (s ∷ next_state s line ∷ []))
          → Keeps session new lines lines'' totals' (said ++ answer ∷ [])
      Keeps-next totals totals' kept answer sums name told space running faults replies holds leaves = record {
        sums = sums;
        name = name ∙ kept.name;
        told = told ∙ kept.told;
        space = space ∙ kept.space;
        running = running;
        faults = let before = kept.faults in omega (arith, before, faults);
        tries = λ first held.
            let so_far = kept.tries first held in
            let s = so_far.state in
            Tries-next first so_far (leaves s so_far.held) (holds s so_far.held) answer (replies s so_far.held);
      }
