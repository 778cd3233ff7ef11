-- A session over a store in a file, as the loop of a run sees it.
use Rattle.std.proofs.Common.{◌≡◌, ℕ, ◌≤◌, List, [], ◌∷◌, ◌++◌, Bool, IsTrue, refl, sym, subst, ◌∙◌, arith}
use Rattle.std.specs.List.{Contains}
use Rattle.std.proofs.lemmas.List.Elements.{Contains-append_left, Contains-append_right}
use Rattle.spb_edge.specs.Calls.{StaysKnown}
use Rattle.spb_edge.specs.Crash.{Includes, IsDurable, CrashesLeaveOnly}
use Rattle.spb_edge.specs.Moments.{started, weaker, joined}
use Rattle.spb_defs.specs.State.{State}
use Rattle.store_check.specs.Stands.{Stands}
use Rattle.open_store.specs.Store.{IsInState}
use Rattle.open_store.proofs.States.{space_of, stored_stands}
use Rattle.session.specs.FileSession.{FileView}
use Rattle.spb_top.specs.Turns.{StandsForOne}

module _ {D M : Type 0} where
  -- the store stands for the state, and nothing is pending
  pub record HoldsFile (is_known knows_crashes : D → Bool) (image : D → List ℕ) (crash_states : D → List ℕ → Type 0) (session : FileView D M) (s : State) : Type 0 where
    pub stands : IsInState is_known image session.store s
    pub durable : IsTrue (knows_crashes session.store.pages.disk) → IsDurable (image session.store.pages.disk) (crash_states session.store.pages.disk)

  -- between the two a crash leaves only what stands for one of these states, if its crash states are known
  pub record LeavesFile (is_known knows_crashes : D → Bool) (moment : D → ℕ) (crash_states_since : D → ℕ → List ℕ → Type 0) (old new : FileView D M)
      (states : List State) : Type 0 where
    pub told : StaysKnown is_known knows_crashes old.store.pages.disk new.store.pages.disk
    pub crashes : IsTrue (knows_crashes old.store.pages.disk)
        → CrashesLeaveOnly moment crash_states_since old.store.pages.disk new.store.pages.disk (StandsForOne states)

  -- a crash now leaves only what stands for one of these states, if its crash states are known
  abbrev pub LeftInFile : (D → Bool) → (D → List ℕ → Type 0) → FileView D M → List State → Type 0
  LeftInFile knows_crashes crash_states session states =
      IsTrue (knows_crashes session.store.pages.disk) → (c : List ℕ) → crash_states session.store.pages.disk c → StandsForOne states c

-- ---- laws

-- what stands for one of some states stands for one of more
pub one_of_more : (xs ys : List State) → ((s : State) → Contains xs s → Contains ys s) → (c : List ℕ) → StandsForOne xs c → StandsForOne ys c
one_of_more xs ys more c (s, has, stands) = (s, more s has, stands)

module _ {D M : Type 0} (is_known knows_crashes : D → Bool) where
  -- the state is one of the space of the store's profile
  pub held_space : (image : D → List ℕ) (crash_states : D → List ℕ → Type 0) (session : FileView D M) (s : State)
      → HoldsFile is_known knows_crashes image crash_states session s → s.space ≡ session.store.profile.space
  held_space image crash_states session s holds = space_of is_known image session.store s holds.stands

  module _ (moment : D → ℕ) (crash_states_since : D → ℕ → List ℕ → Type 0) where
    -- before the first call
    pub left_same : (image : D → List ℕ) (crash_states : D → List ℕ → Type 0) → ((d : D) → Includes (crash_states d) (crash_states_since d (moment d)))
        → (session : FileView D M) (s : State) → HoldsFile is_known knows_crashes image crash_states session s
        → LeavesFile is_known knows_crashes moment crash_states_since session session (s ∷ [])
    left_same image crash_states only_now session s holds = record {
      told = (refl, refl);
      crashes = λ known.
          let disk = session.store.pages.disk in
          started moment crash_states_since disk (StandsForOne (s ∷ []))
          (λ c left. (
            s,
            (0, omega arith, refl),
            subst (λ (i : List ℕ). Stands i s) (sym (holds.durable known c (only_now disk c left))) (stored_stands (image disk) s holds.stands.stored),
          ));
    }

    -- what stands for one of some states stands for one of more
    pub left_more : (a b : FileView D M) (xs ys : List State) → ((s : State) → Contains xs s → Contains ys s)
        → LeavesFile is_known knows_crashes moment crash_states_since a b xs → LeavesFile is_known knows_crashes moment crash_states_since a b ys
    left_more a b xs ys more left = record {
      told = left.told;
      crashes = λ known.
          weaker moment crash_states_since a.store.pages.disk b.store.pages.disk (StandsForOne xs) (StandsForOne ys) (one_of_more xs ys more)
          (left.crashes known);
    }

    -- one stretch of time and then another
    pub left_joined : (a b c : FileView D M) (xs ys : List State) → LeavesFile is_known knows_crashes moment crash_states_since a b xs
        → LeavesFile is_known knows_crashes moment crash_states_since b c ys → LeavesFile is_known knows_crashes moment crash_states_since a c (xs ++ ys)
    left_joined a b c xs ys first second = record {
      told = (second.told.0 ∙ first.told.0, second.told.1 ∙ first.told.1);
      crashes = λ known.
          joined moment crash_states_since a.store.pages.disk b.store.pages.disk c.store.pages.disk (StandsForOne (xs ++ ys))
          (weaker moment crash_states_since a.store.pages.disk b.store.pages.disk (StandsForOne xs) (StandsForOne (xs ++ ys))
          (one_of_more xs (xs ++ ys) (Contains-append_left xs ys)) (first.crashes known))
          (weaker moment crash_states_since b.store.pages.disk c.store.pages.disk (StandsForOne ys) (StandsForOne (xs ++ ys))
          (one_of_more ys (xs ++ ys) (Contains-append_right xs ys)) (second.crashes (subst IsTrue (sym first.told.1) known)));
    }

    -- what a crash leaves now is among what it might have left
    pub left_by : (crash_states : D → List ℕ → Type 0) → ((d : D) (t : ℕ) (c : List ℕ) → t ≤ moment d → crash_states d c → crash_states_since d t c)
        → (a b : FileView D M) (xs : List State) → LeavesFile is_known knows_crashes moment crash_states_since a b xs
        → LeftInFile knows_crashes crash_states b xs
    left_by crash_states counts_now a b xs left = λ known c now.
        let run = left.crashes (subst IsTrue left.told.1 known) in
        run.each c (counts_now b.store.pages.disk (moment a.store.pages.disk) c run.later now)
