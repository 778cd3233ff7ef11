-- The states that lines lead to, and those after changes.
use Rattle.std.proofs.Common.{◌≡◌, ℕ, ◌<◌, Bool, true, false, List, [], ◌∷◌, length, take, get_or, Option, Some, None, Result, Ok, Err, refl, sym, ap, subst, ◌∙◌, arith, zero, suc}
use Rattle.std.specs.Prelude.{is_some, if◌then◌else◌}
use Rattle.std.specs.List.{Contains}
use Rattle.spb_edge.specs.declared.reader.Line.{Line}
use Rattle.spb_edge.specs.declared.reader.Line.TheVariants as line
use Rattle.spb_edge.specs.Lines.{lines_of}
use Rattle.spb_defs.specs.declared.TheConstants.{LINE_LIMIT}
use Rattle.spb_defs.specs.declared.Command.{Command}
use Rattle.spb_defs.specs.declared.Command.TheVariants as command
use Rattle.spb_defs.specs.declared.Reply.TheVariants.{Done, Exists, Absent, Full}
use Rattle.spb_defs.specs.declared.What.{What}
use Rattle.spb_defs.specs.State.{State, with_samples_closed, pivots_after_sampling, object_at, is_full, with_object, without_object}
use Rattle.spb_defs.specs.Grammar.{command_of}
use Rattle.spb_defs.specs.Step.{with_sample, reply_to, state_after, reply_of, changed_state, reply_read, state_after_read, reply, next_state}
use Rattle.spb_defs.specs.Changes.{IsReached, state_after_lines, is_update, is_ok, is_change, changed_states, changes}

-- ---- a line that is no change leaves a state whose samples are closed as it was

closed_same : (s : State) → s.samples ≡ None → with_samples_closed s ≡ s
closed_same s none =
    ap (λ (kept : Option (List (List ℕ))). record s { pivots = pivots_after_sampling s kept; samples = None }) none
    ∙ ap (λ (kept : Option (List (List ℕ))). record s { samples = kept }) (sym none)

sample_same : (samples : Option (List (List ℕ))) (object : List ℕ) → samples ≡ None → with_sample samples object ≡ samples
sample_same None object none = refl
sample_same (Some kept) object none = absurd (cc)

same_by_add : (there full : Bool) (t more : State) → is_ok (if there then Exists else (if full then Full else Done)) ≡ false
    → (if there then t else (if full then t else more)) ≡ t
same_by_add true full t more no_change = refl
same_by_add false true t more no_change = refl
same_by_add false false t more no_change = absurd (cc)

same_by_drop : (there : Bool) (t less : State) → is_ok (if there then Done else Absent) ≡ false → (if there then less else t) ≡ t
same_by_drop true t less no_change = absurd (cc)
same_by_drop false t less no_change = refl

same_by : (s : State) (c : Command) → s.samples ≡ None → (if is_update (Ok c) then is_ok (reply_to s c) else false) ≡ false → state_after s c ≡ s
unfolding reply_of changed_state
same_by s (command.Sample object) none no_change = ap (λ (kept : Option (List (List ℕ))). record s { samples = kept }) (sample_same s.samples object none)
same_by s (command.Add c id object) none no_change =
    let t = with_samples_closed s in
    same_by_add (is_some (object_at t c id)) (is_full t) t (record t { members = with_object t.members c id object }) no_change ∙ closed_same s none
same_by s (command.Discard c id) none no_change =
    let t = with_samples_closed s in
    same_by_drop (is_some (object_at t c id)) t (record t { members = without_object t.members c id }) no_change ∙ closed_same s none
same_by s (command.Get c id) none no_change = closed_same s none
same_by s (command.Count c) none no_change = closed_same s none
same_by s (command.Range c r object) none no_change = closed_same s none
same_by s (command.Near c k object) none no_change = closed_same s none
same_by s (command.Join c d r) none no_change = closed_same s none

same_by_text : (s : State) (read : Result Command What) → s.samples ≡ None → (if is_update read then is_ok (reply_read s read) else false) ≡ false
    → state_after_read s read ≡ s
same_by_text s (Ok c) none no_change = same_by s c none no_change
same_by_text s (Err failed) none no_change = refl

same : (s : State) (l : Line) → s.samples ≡ None → is_change s l ≡ false → next_state s l ≡ s
unfolding reply next_state
same s (line.Text text) none no_change = same_by_text s (command_of s.space text) none no_change
same s line.Long none no_change = refl
same s line.End none no_change = refl

-- ---- the samples stay closed

stays_by_add : (there full : Bool) (t : State) (more : State) → t.samples ≡ None → more.samples ≡ None
    → (if there then t else (if full then t else more)).samples ≡ None
stays_by_add true full t more none still = none
stays_by_add false true t more none still = none
stays_by_add false false t more none still = still

stays_by_drop : (there : Bool) (t less : State) → t.samples ≡ None → less.samples ≡ None → (if there then less else t).samples ≡ None
stays_by_drop true t less none still = still
stays_by_drop false t less none still = none

stays_by : (s : State) (c : Command) → s.samples ≡ None → (state_after s c).samples ≡ None
unfolding changed_state
stays_by s (command.Sample object) none = sample_same s.samples object none ∙ none
stays_by s (command.Add c id object) none = let t = with_samples_closed s in
    stays_by_add (is_some (object_at t c id)) (is_full t) t (record t { members = with_object t.members c id object }) refl refl
stays_by s (command.Discard c id) none = let t = with_samples_closed s in
    stays_by_drop (is_some (object_at t c id)) t (record t { members = without_object t.members c id }) refl refl
stays_by s (command.Get c id) none = refl
stays_by s (command.Count c) none = refl
stays_by s (command.Range c r object) none = refl
stays_by s (command.Near c k object) none = refl
stays_by s (command.Join c d r) none = refl

stays_by_text : (s : State) (read : Result Command What) → s.samples ≡ None → (state_after_read s read).samples ≡ None
stays_by_text s (Ok c) none = stays_by s c none
stays_by_text s (Err failed) none = none

stays : (s : State) (l : Line) → s.samples ≡ None → (next_state s l).samples ≡ None
unfolding next_state
stays s (line.Text text) none = stays_by_text s (command_of s.space text) none
stays s line.Long none = none
stays s line.End none = none

-- ---- elements

contains_first : (x : State) (xs : List State) → Contains (x ∷ xs) x
contains_first x xs = (0, omega arith, refl)

contains_more : (x : State) (xs : List State) (t : State) → Contains xs t → Contains (x ∷ xs) t
contains_more x xs t h = let inside = h.1 in (suc h.0, omega arith, h.2)

-- ---- from the lines to the changes

to_changes : (lines : List Line) (s : State) (many : ℕ) → s.samples ≡ None → Contains (s ∷ changed_states s lines) (state_after_lines s (take many lines))
to_changes [] s zero none = contains_first s []
to_changes [] s (suc many) none = contains_first s []
to_changes (l ∷ lines) s zero none = contains_first s (changed_states s (l ∷ lines))
to_changes (l ∷ lines) s (suc many) none = by_change (is_change s l) refl (to_changes lines (next_state s l) many (stays s l none))
  where
    by_change : (b : Bool) → is_change s l ≡ b
        → Contains (next_state s l ∷ changed_states (next_state s l) lines) (state_after_lines (next_state s l) (take many lines)) →
        Contains (s ∷ (if b then next_state s l ∷ changed_states (next_state s l) lines else changed_states (next_state s l) lines))
        (state_after_lines (next_state s l) (take many lines))
    by_change true is rest = contains_more s (next_state s l ∷ changed_states (next_state s l) lines) (state_after_lines (next_state s l) (take many lines))
        rest
    by_change false is rest = subst (λ (t : State). Contains (t ∷ changed_states (next_state s l) lines)
        (state_after_lines (next_state s l) (take many lines))) (same s l none is) rest

pub reached_changes : (s : State) (script : List ℕ) (t : State) → s.samples ≡ None → IsReached s (lines_of LINE_LIMIT script) t → Contains (changes s script) t
reached_changes s script t none r = subst (Contains (changes s script)) (sym r.is) (to_changes (lines_of LINE_LIMIT script) s r.many none)

-- ---- from the changes to the lines

reached_now : (s : State) (lines : List Line) (t : State) → s ≡ t → IsReached s lines t
reached_now s lines t e = record { many = 0; within = omega arith; is = sym e }

reached_later : (s : State) (l : Line) (lines : List Line) (t : State) → IsReached (next_state s l) lines t → IsReached s (l ∷ lines) t
reached_later s l lines t r = let within = r.within in record { many = suc r.many; within = omega arith; is = r.is }

to_lines : (lines : List Line) (s t : State) → Contains (s ∷ changed_states s lines) t → IsReached s lines t
to_lines [] s t (zero, inside, is) = reached_now s [] t is
to_lines [] s t (suc k, inside, is) = absurd (omega arith)
to_lines (l ∷ lines) s t (zero, inside, is) = reached_now s (l ∷ lines) t is
to_lines (l ∷ lines) s t (suc k, inside, is) =
    by_change (is_change s l) k inside is (λ h. reached_later s l lines t (to_lines lines (next_state s l) t h))
  where
    by_change : (b : Bool) (k : ℕ) → suc k < suc
        (length (if b then next_state s l ∷ changed_states (next_state s l) lines else changed_states (next_state s l) lines))
        → get_or (if b then next_state s l ∷ changed_states (next_state s l) lines else changed_states (next_state s l) lines) k t ≡ t
        → (Contains (next_state s l ∷ changed_states (next_state s l) lines) t → IsReached s (l ∷ lines) t) → IsReached s (l ∷ lines) t
    by_change true k inside is later = later (k, omega arith, is)
    by_change false k inside is later = later (suc k, omega arith, is)

pub changes_reached : (s : State) (script : List ℕ) (t : State) → Contains (changes s script) t → IsReached s (lines_of LINE_LIMIT script) t
changes_reached s script t h = to_lines (lines_of LINE_LIMIT script) s t h
