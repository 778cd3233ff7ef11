-- The replies to lines and the states that they lead through, and how many lines were answered by what was written.
use Rattle.std.proofs.Common.{◌≡◌, ◌⊎◌, inl, inr, ⊎_elim, ℕ, zero, suc, ◌+◌, ◌<◌, ◌≤◌, List, [], ◌∷◌, ◌++◌, length, take, drop, refl, sym, ap, subst, ◌∙◌, append-nil, append_assoc, length-append, length-take, length-drop, arith}
use Rattle.std.specs.List.{Contains}
use Rattle.std.proofs.lemmas.List.{take_at, take-take, take-append-drop}
use Rattle.std.proofs.lemmas.List.Elements.{Contains-append_cases}
use Rattle.spb_edge.specs.declared.reader.Line.{Line}
use Rattle.spb_defs.specs.State.{State}
use Rattle.spb_defs.specs.Step.{reply, next_state}
use Rattle.spb_defs.specs.ReplyText.{line_without_lf, reply_text}
use Rattle.spb_defs.specs.Play.{play_lines}
use Rattle.spb_defs.specs.Changes.{state_after_lines}
use Rattle.spb_top.specs.Turns.{states_through, BeginsWith, AnsweredLines, states_after}

-- ---- lines one after the other

-- the reply to a line, as it is written from a state
abbrev pub answer : State → Line → List ℕ
answer s line = reply_text s.space (reply s line)

pub play_lines-append : (s : State) (xs ys : List Line) → play_lines s (xs ++ ys) ≡ play_lines s xs ++ play_lines (state_after_lines s xs) ys
play_lines-append s [] ys = refl
play_lines-append s (x ∷ xs) ys =
    let t = next_state s x in
    ap (λ text. answer s x ++ text) (play_lines-append t xs ys) ∙ sym (append_assoc (answer s x) (play_lines t xs) (play_lines (state_after_lines t xs) ys))

pub play_lines-push : (s : State) (xs : List Line) (line : Line) → play_lines s (xs ++ line ∷ []) ≡ play_lines s xs ++ answer (state_after_lines s xs) line
play_lines-push s xs line =
    play_lines-append s xs (line ∷ []) ∙ ap (λ text. play_lines s xs ++ text) (append-nil (answer (state_after_lines s xs) line))

pub state_after_lines-push : (s : State) (xs : List Line) (line : Line) → state_after_lines s (xs ++ line ∷ []) ≡ next_state (state_after_lines s xs) line
state_after_lines-push s [] line = refl
state_after_lines-push s (x ∷ xs) line = state_after_lines-push (next_state s x) xs line

-- ---- states

-- what is among one state, and among two
pub only_one : (a t : State) → Contains (a ∷ []) t → a ≡ t
only_one a t (zero, inside, is) = is
only_one a t (suc k, inside, is) = absurd (omega (arith, inside))

one_of_two : (a b t : State) → Contains (a ∷ b ∷ []) t → (a ≡ t) ⊎ (b ≡ t)
one_of_two a b t (zero, inside, is) = inl is
one_of_two a b t (suc zero, inside, is) = inr is
one_of_two a b t (suc (suc k), inside, is) = absurd (omega (arith, inside))

pub both_among : (a b : State) (states : List State) → Contains states a → Contains states b → (t : State) → Contains (a ∷ b ∷ []) t → Contains states t
both_among a b states has_a has_b t has =
    ⊎_elim (λ is. subst (Contains states) is has_a) (λ is. subst (Contains states) is has_b) (one_of_two a b t has)

pub one_among : (a : State) (states : List State) → Contains states a → (t : State) → Contains (a ∷ []) t → Contains states t
one_among a states has_a t has = subst (Contains states) (only_one a t has) has_a

pub first_through : (s : State) (lines : List Line) → Contains (states_through s lines) s
first_through s [] = (0, omega arith, refl)
first_through s (line ∷ lines) = (0, omega arith, refl)

last_through : (s : State) (lines : List Line) → Contains (states_through s lines) (state_after_lines s lines)
last_through s [] = (0, omega arith, refl)
last_through s (line ∷ lines) =
    let rest = last_through (next_state s line) lines in
    let inside = rest.1 in (suc rest.0, omega arith, rest.2)

-- the states through some lines are among those through more
pub through_more : (s : State) (xs ys : List Line) (t : State) → Contains (states_through s xs) t → Contains (states_through s (xs ++ ys)) t
through_more s [] ys t has = subst (Contains (states_through s ys)) (only_one s t has) (first_through s ys)
through_more s (x ∷ xs) ys t (zero, inside, is) = (0, omega arith, is)
through_more s (x ∷ xs) ys t (suc k, inside, is) =
    let rest = through_more (next_state s x) xs ys t (k, omega (arith, inside), is) in
    let inside' = rest.1 in (suc rest.0, omega arith, rest.2)

-- the states through some lines, and the two of one line more
pub through_push : (s : State) (xs : List Line) (line : Line) (t : State)
    → Contains (states_through s xs ++ state_after_lines s xs ∷ next_state (state_after_lines s xs) line ∷ []) t
    → Contains (states_through s (xs ++ line ∷ [])) t
through_push s xs line t has =
    let now = state_after_lines s xs in
    let all = states_through s (xs ++ line ∷ []) in
    ⊎_elim (through_more s xs (line ∷ []) t)
    (both_among now (next_state now line) all (through_more s xs (line ∷ []) now (last_through s xs))
    (subst (Contains all) (state_after_lines-push s xs line) (last_through s (xs ++ line ∷ []))) t)
    (Contains-append_cases (states_through s xs) (now ∷ next_state now line ∷ []) t has)

-- ---- how long replies are

-- no reply is empty: it has its LF
answer_is_long : (s : State) (line : Line) → 0 < length (answer s line)
unfolding reply_text
answer_is_long s line = omega (arith, length-append (line_without_lf s.space (reply s line)) (10 ∷ []))

replies_are_long : (s : State) (lines : List Line) → 0 < length lines → 0 < length (play_lines s lines)
replies_are_long s [] some = absurd (omega (arith, some))
replies_are_long s (line ∷ lines) some =
    omega (arith, answer_is_long s line, length-append (answer s line) (play_lines (next_state s line) lines))

module _ (s : State) (lines : List Line) (fewer many : ℕ) where
  cut_twice : fewer ≤ many → take fewer lines ++ drop fewer (take many lines) ≡ take many lines
  cut_twice less = ap (λ xs. xs ++ drop fewer (take many lines)) (sym (take-take fewer many lines less)) ∙ take-append-drop fewer (take many lines)

  length_twice : fewer ≤ many → length (play_lines s (take many lines))
      ≡ length (play_lines s (take fewer lines)) + length (play_lines (state_after_lines s (take fewer lines)) (drop fewer (take many lines)))
  length_twice less =
      let front = take fewer lines in
      let back = drop fewer (take many lines) in
      ap (λ xs. length (play_lines s xs)) (sym (cut_twice less)) ∙ ap length (play_lines-append s front back)
      ∙ length-append (play_lines s front) (play_lines (state_after_lines s front) back)

  -- the replies to fewer lines are shorter
  fewer_are_shorter : fewer < many → many ≤ length lines → length (play_lines s (take fewer lines)) < length (play_lines s (take many lines))
  fewer_are_shorter less within =
      let some : 0 < length (drop fewer (take many lines)) = omega (arith, length-drop fewer (take many lines), length-take many lines) in
      let long = replies_are_long (state_after_lines s (take fewer lines)) (drop fewer (take many lines)) some in
      omega (arith, long, length_twice (omega arith))

  fewer_are_no_longer : fewer ≤ many → length (play_lines s (take fewer lines)) ≤ length (play_lines s (take many lines))
  fewer_are_no_longer less = omega (arith, length_twice less)

front_is_no_longer : (front text : List ℕ) → BeginsWith front text → length front ≤ length text
front_is_no_longer front text (more, is) = omega (arith, ap length is, length-append front more)

-- ---- how many lines were answered

-- one number is the least
answered_once : (s : State) (lines : List Line) (written : List ℕ) (n m : ℕ) → AnsweredLines s lines written n → AnsweredLines s lines written m → n ≡ m
answered_once s lines written n m one other =
    let no_less : n < m → ⊥ = λ less. other.least n less one.begins in
    let no_more : m < n → ⊥ = λ less. one.least m less other.begins in omega arith

take_one_more : (front : List Line) (line : Line) (back : List Line) → take (length front + 1) (front ++ line ∷ back) ≡ front ++ line ∷ []
take_one_more front line back =
    let long : length (front ++ line ∷ []) ≡ length front + 1 = length-append front (line ∷ []) in
    ap (take (length front + 1)) (sym (append_assoc front (line ∷ []) back)) ∙ take_at (front ++ line ∷ []) back (length front + 1) long

module _ (s : State) (front : List Line) where
  -- the replies to these lines were written
  all_answered : (back : List Line) → AnsweredLines s (front ++ back) (play_lines s front) (length front)
  all_answered back =
      let here : take (length front) (front ++ back) ≡ front = take_at front back (length front) refl in
      let within : length front ≤ length (front ++ back) = omega (arith, length-append front back) in
      record {
        within = within;
        begins = ([], ap (play_lines s) here ∙ sym (append-nil (play_lines s front)));
        least = λ fewer less begins.
            let short = fewer_are_shorter s (front ++ back) fewer (length front) less within in
            let long = front_is_no_longer (play_lines s front) (play_lines s (take fewer (front ++ back))) begins in
            let same : length (play_lines s (take (length front) (front ++ back))) ≡ length (play_lines s front) = ap (λ xs. length (play_lines s xs)) here in
            omega (arith, short, long, same);
      }

  module _ (line : Line) (back : List Line) (part more : List ℕ) (is : answer (state_after_lines s front) line ≡ part ++ more) where
    -- and some of the reply to one line more
    one_more_answered : 0 < length part → AnsweredLines s (front ++ line ∷ back) (play_lines s front ++ part) (length front + 1)
    one_more_answered some =
        let all = front ++ line ∷ back in
        record {
          within = omega (arith, length-append front (line ∷ back));
          begins = (
            more,
            ap (play_lines s) (take_one_more front line back) ∙ play_lines-push s front line ∙ ap (λ text. play_lines s front ++ text) is
                ∙ sym (append_assoc (play_lines s front) part more),
          );
          least = λ fewer less begins.
              let short = fewer_are_no_longer s all fewer (length front) (omega (arith, less)) in
              let long = front_is_no_longer (play_lines s front ++ part) (play_lines s (take fewer all)) begins in
              let same : length (play_lines s (take (length front) all)) ≡ length (play_lines s front) =
              ap (λ xs. length (play_lines s xs)) (take_at front (line ∷ back) (length front) refl) in
              omega (arith, some, short, long, same, length-append (play_lines s front) part);
        }

-- ---- the states after the lines that were answered

module _ (s : State) (lines front : List Line) (written : List ℕ) (many : ℕ) (answered : AnsweredLines s lines written many) where
  -- the state after these lines, if the replies to them were written
  pub after_front : (back : List Line) → lines ≡ front ++ back → written ≡ play_lines s front → Contains (states_after s lines many) (state_after_lines s front)
  after_front back split wrote =
      let here : AnsweredLines s (front ++ back) (play_lines s front) many =
      subst (λ xs. AnsweredLines s xs (play_lines s front) many) split (subst (λ w. AnsweredLines s lines w many) wrote answered) in
      let is : many ≡ length front = answered_once s (front ++ back) (play_lines s front) many (length front) here (all_answered s front back) in
      (0, omega arith, ap (state_after_lines s) (ap (λ n. take n lines) is ∙ ap (take (length front)) split ∙ take_at front back (length front) refl))

  module _ (line : Line) (back : List Line) (split : lines ≡ front ++ line ∷ back) where
    one_more : many ≡ length front → state_after_lines s (take (many + 1) lines) ≡ next_state (state_after_lines s front) line
    one_more is =
        ap (state_after_lines s) (ap (λ n. take (n + 1) lines) is ∙ ap (take (length front + 1)) split ∙ take_one_more front line back)
        ∙ state_after_lines-push s front line

    at_one_more : many ≡ length front + 1 → state_after_lines s (take many lines) ≡ next_state (state_after_lines s front) line
    at_one_more is =
        ap (state_after_lines s) (ap (λ n. take n lines) is ∙ ap (take (length front + 1)) split ∙ take_one_more front line back)
        ∙ state_after_lines-push s front line

    -- the state after one line more
    pub after_next : written ≡ play_lines s front → Contains (states_after s lines many) (next_state (state_after_lines s front) line)
    after_next wrote =
        let here : AnsweredLines s (front ++ line ∷ back) (play_lines s front) many =
        subst (λ xs. AnsweredLines s xs (play_lines s front) many) split (subst (λ w. AnsweredLines s lines w many) wrote answered) in
        let is : many ≡ length front = answered_once s (front ++ line ∷ back) (play_lines s front) many (length front) here (all_answered s front (line ∷ back)) in
        (1, omega arith, one_more is)

    -- the same if a part of the reply to it was written too
    pub after_part : (part more : List ℕ) → answer (state_after_lines s front) line ≡ part ++ more → written ≡ play_lines s front ++ part
        → Contains (states_after s lines many) (next_state (state_after_lines s front) line)
    after_part [] more is wrote = after_next (wrote ∙ append-nil (play_lines s front))
    after_part (b ∷ part) more is wrote =
        let text = play_lines s front ++ b ∷ part in
        let here : AnsweredLines s (front ++ line ∷ back) text many =
        subst (λ xs. AnsweredLines s xs text many) split (subst (λ w. AnsweredLines s lines w many) wrote answered) in
        let one = one_more_answered s front line back (b ∷ part) more is (omega arith) in
        let at : many ≡ length front + 1 = answered_once s (front ++ line ∷ back) text many (length front + 1) here one in
        (0, omega arith, at_one_more at)
