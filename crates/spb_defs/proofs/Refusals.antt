-- A line that is refused leaves the state as it was, or with its samples closed.
use Rattle.std.proofs.Common.{◌≡◌, ℕ, ◌∙◌, subst, Bool, true, false, Option, Some, None, Result, Ok, Err, List, length, refl, ap}
use Rattle.std.specs.Prelude.{is_some, nat_le, if◌then◌else◌}
use Rattle.spb_edge.specs.declared.reader.Line.{Line}
use Rattle.spb_edge.specs.declared.reader.Line.TheVariants as line
use Rattle.spb_defs.specs.declared.TheConstants.{SAMPLE_LIMIT}
use Rattle.spb_defs.specs.declared.Command.{Command}
use Rattle.spb_defs.specs.declared.Command.TheVariants as command
use Rattle.spb_defs.specs.declared.Reply.TheVariants.{Done, Exists, Absent, Full}
use Rattle.spb_defs.specs.declared.What.{What}
use Rattle.spb_defs.specs.State.{State, with_samples_closed, object_at, is_full, with_object, without_object}
use Rattle.spb_defs.specs.Grammar.{command_of}
use Rattle.spb_defs.specs.Step.{sample_reply, with_sample, reply_to, state_after, reply_of, changed_state, reply_read, state_after_read, reply, next_state, IsRefusal, IsSample, ClosesSamples}

-- a sample, by the samples so far
kept_by_room : (full : Bool) (kept more : List (List ℕ)) → IsRefusal (if full then Full else Done) → (if full then Some kept else Some more) ≡ Some kept
kept_by_room true kept more refused = refl
kept_by_room false kept more refused = absurd refused

kept_by_sample : (samples : Option (List (List ℕ))) (object : List ℕ) → IsRefusal (sample_reply samples) → with_sample samples object ≡ samples
kept_by_sample None object refused = refl
kept_by_sample (Some kept) object refused = kept_by_room (nat_le SAMPLE_LIMIT (length kept)) kept _ refused

-- an addition, by whether the key is there and whether there is room
kept_by_add : (there full : Bool) (s more : State) → IsRefusal (if there then Exists else (if full then Full else Done))
    → (if there then s else (if full then s else more)) ≡ s
kept_by_add true full s more refused = refl
kept_by_add false true s more refused = refl
kept_by_add false false s more refused = absurd refused

kept_by_drop : (there : Bool) (s less : State) → IsRefusal (if there then Done else Absent) → (if there then less else s) ≡ s
kept_by_drop true s less refused = absurd refused
kept_by_drop false s less refused = refl

-- a command that closes the samples
closed_by : (s : State) (c : Command) → (IsSample c → ⊥) → IsRefusal (reply_to s c) → state_after s c ≡ with_samples_closed s
unfolding reply_of changed_state
closed_by s (command.Sample object) other refused = absurd (other (object, refl))
closed_by s (command.Add c id object) other refused =
    let t = with_samples_closed s in
    kept_by_add (is_some (object_at t c id)) (is_full t) t (record t { members = with_object t.members c id object }) refused
closed_by s (command.Discard c id) other refused =
    let t = with_samples_closed s in
    kept_by_drop (is_some (object_at t c id)) t (record t { members = without_object t.members c id }) refused
closed_by s (command.Get c id) other refused = refl
closed_by s (command.Count c) other refused = refl
closed_by s (command.Range c r object) other refused = refl
closed_by s (command.Near c k object) other refused = refl
closed_by s (command.Join c d r) other refused = refl

pub refused_command : (s : State) (l : Line) → IsRefusal (reply s l) → ClosesSamples s.space l → next_state s l ≡ with_samples_closed s
unfolding reply next_state
refused_command s l refused closes =
    let read : Command = closes.1 in
    let to_reply : reply s l ≡ reply_to s read = ap (reply s) closes.2 ∙ ap (reply_read s) closes.3 in
    let to_state : next_state s l ≡ state_after s read = ap (next_state s) closes.2 ∙ ap (state_after_read s) closes.3 in
    to_state ∙ closed_by s read closes.4 (subst IsRefusal to_reply refused)

-- a sample
kept_by : (s : State) (object : List ℕ) → IsRefusal (reply_to s (command.Sample object)) → state_after s (command.Sample object) ≡ s
unfolding reply_of changed_state
kept_by s object refused = ap (λ (kept : Option (List (List ℕ))). record s { samples = kept }) (kept_by_sample s.samples object refused)

-- by the command that the text is read as
module _ (s : State) (text : List ℕ) where
  abbrev Others : Command → Type 0
  Others c = (command_of s.space text ≡ Ok c) → (ClosesSamples s.space (line.Text text) → ⊥) → IsRefusal (reply_to s c) → state_after s c ≡ s

  closing : (c : Command) → (IsSample c → ⊥) → Others c
  closing c other is keeps refused = absurd (keeps (text, c, refl, is, other))

  by_command : (c : Command) → Others c
  by_command (command.Sample object) is keeps refused = kept_by s object refused
  by_command (command.Add c id object) is keeps refused = closing (command.Add c id object) (λ x. absurd (let e = x.1 in cc)) is keeps refused
  by_command (command.Discard c id) is keeps refused = closing (command.Discard c id) (λ x. absurd (let e = x.1 in cc)) is keeps refused
  by_command (command.Get c id) is keeps refused = closing (command.Get c id) (λ x. absurd (let e = x.1 in cc)) is keeps refused
  by_command (command.Count c) is keeps refused = closing (command.Count c) (λ x. absurd (let e = x.1 in cc)) is keeps refused
  by_command (command.Range c r object) is keeps refused = closing (command.Range c r object) (λ x. absurd (let e = x.1 in cc)) is keeps refused
  by_command (command.Near c k object) is keeps refused = closing (command.Near c k object) (λ x. absurd (let e = x.1 in cc)) is keeps refused
  by_command (command.Join c d r) is keeps refused = closing (command.Join c d r) (λ x. absurd (let e = x.1 in cc)) is keeps refused

  by_text : (read : Result Command What) → command_of s.space text ≡ read → (ClosesSamples s.space (line.Text text) → ⊥) → IsRefusal (reply_read s read)
      → state_after_read s read ≡ s
  by_text (Ok c) is keeps refused = by_command c is keeps refused
  by_text (Err failed) is keeps refused = refl

pub refused_other : (s : State) (l : Line) → IsRefusal (reply s l) → (ClosesSamples s.space l → ⊥) → next_state s l ≡ s
unfolding reply next_state
refused_other s (line.Text text) refused keeps = by_text s text (command_of s.space text) refl keeps refused
refused_other s line.Long refused keeps = refl
refused_other s line.End refused keeps = refl
