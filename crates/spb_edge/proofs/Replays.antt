-- The record of a disk in memory with one more call.
use Rattle.std.proofs.Common.{◌≡◌, Bool, true, false, if◌then◌else◌, ◌&&◌, Result, Ok, Err, ◌⊎◌, inl, inr, ⊎_elim, ℕ, zero, suc, ◌+◌, ◌≤◌, List, [], ◌∷◌, ◌++◌, length, take, drop, sum_by, refl, sym, ◌∙◌, ap, subst, arith, length-append}
use Rattle.std.proofs.Math.Seq.{take-length}
use Rattle.std.proofs.lemmas.List.Sums.{sum_by-cons, sum_by-append}
use Rattle.std.proofs.lemmas.List.{take-append-le, drop-append-le, length-drop}
use Rattle.spb_edge.specs.declared.call_log.DiskCall.{DiskCall}
use Rattle.spb_edge.specs.declared.call_log.DiskCall.TheVariants.{Size, Read, Write, Sync}
use Rattle.spb_edge.specs.declared.disk.DiskError.{DiskError}
use Rattle.spb_edge.specs.declared.disk.DiskError.TheVariants.{Failed}
use Rattle.spb_edge.specs.CallLog.{Log, is_failing, fails_next, is_made, with_call, with_refusal, log_after}
use Rattle.spb_edge.specs.Contents.{Contents, IsCrashState, fresh_contents, with_range, synced_contents}
use Rattle.spb_edge.specs.Disk.{overwritten_at}
use Rattle.spb_edge.specs.Crash.{Elapses}
use Rattle.spb_edge.specs.MemDisk.{DiskState, written_count, contents_after, held_after_call, earlier_contents, contents_before_calls, replayed, HadCrashState, crash_states_since, length-earlier_contents, only_now, IsReplayed, IsQuietDisk}

module _ (failing : List ℕ) where
  -- after one more call
  pub replayed-more : (number last : ℕ) (now : Contents) (calls : List DiskCall) (written : List ℕ) (call : DiskCall) (bytes : List ℕ)
      → sum_by written_count calls ≡ length written → written_count call ≡ length bytes → last ≡ number + length calls
      → replayed failing number now (calls ++ call ∷ []) (written ++ bytes)
      ≡ contents_after (is_failing failing last) call bytes (replayed failing number now calls written)
  replayed-more number last now [] [] call bytes sums count is =
      let first : number ≡ last = omega (arith, is) in
      ap (λ n. contents_after (is_failing failing n) call (take (written_count call) bytes) now) first
      ∙ ap (λ b. contents_after (is_failing failing last) call b now) (ap (λ n. take n bytes) count ∙ take-length bytes)
  replayed-more number last now [] (w ∷ written) call bytes sums count is = absurd (omega (arith, sums))
  replayed-more number last now (k ∷ calls) written call bytes sums count is =
      let sum = sum_by-cons written_count k calls in
      let some : written_count k ≤ length written = omega (arith, sums, sum) in
      ap (λ b. replayed failing (number + 1) (contents_after (is_failing failing number) k b now) (calls ++ call ∷ [])
      (drop (written_count k) (written ++ bytes))) (take-append-le (written_count k) written bytes some)
      ∙ ap (λ b. replayed failing (number + 1) (contents_after (is_failing failing number) k (take (written_count k) written) now) (calls ++ call ∷ []) b)
      (drop-append-le (written_count k) written bytes some)
      ∙ replayed-more (number + 1) last (contents_after (is_failing failing number) k (take (written_count k) written) now) calls
      (drop (written_count k) written) call bytes
      (omega (arith, sums, sum, some, length-drop (written_count k) written)) count (omega (arith, is))

  -- what it held before the last call is what the ones before left
  pub earlier_contents-more : (number : ℕ) (now : Contents) (calls : List DiskCall) (written : List ℕ) (call : DiskCall) (bytes : List ℕ)
      → sum_by written_count calls ≡ length written
      → earlier_contents failing number now (calls ++ call ∷ []) (written ++ bytes) ≡ earlier_contents failing number now calls written
      ++ replayed failing number now calls written ∷ []
  earlier_contents-more number now [] written call bytes sums = refl
  earlier_contents-more number now (k ∷ calls) written call bytes sums =
      let sum = sum_by-cons written_count k calls in
      let some : written_count k ≤ length written = omega (arith, sums, sum) in
      ap (λ b. now ∷ earlier_contents failing (number + 1) (contents_after (is_failing failing number) k b now) (calls ++ call ∷ [])
      (drop (written_count k) (written ++ bytes))) (take-append-le (written_count k) written bytes some)
      ∙ ap (λ b. now ∷ earlier_contents failing (number + 1) (contents_after (is_failing failing number) k (take (written_count k) written) now)
      (calls ++ call ∷ []) b) (drop-append-le (written_count k) written bytes some)
      ∙ ap (λ (l : List Contents). now ∷ l) (earlier_contents-more (number + 1)
      (contents_after (is_failing failing number) k (take (written_count k) written) now) calls (drop (written_count k) written) call bytes
      (omega (arith, sums, sum, some, length-drop (written_count k) written)))

-- one more state is added to those that might have left the image
had-more : (held : List Contents) (now : Contents) (c : List ℕ) → HadCrashState held c ⊎ IsCrashState now c → HadCrashState (held ++ now ∷ []) c
had-more [] now c (inl had) = absurd had
had-more [] now c (inr here) = inl here
had-more (h ∷ held) now c (inl (inl here)) = inl here
had-more (h ∷ held) now c (inl (inr there)) = inr (had-more held now c (inl there))
had-more (h ∷ held) now c (inr here) = inr (had-more held now c (inr here))

had-last : (held : List Contents) (now : Contents) (c : List ℕ) → HadCrashState (held ++ now ∷ []) c → HadCrashState held c ⊎ IsCrashState now c
had-last [] now c (inl here) = inr here
had-last [] now c (inr none) = absurd none
had-last (h ∷ held) now c (inl here) = inl (inl here)
had-last (h ∷ held) now c (inr there) = ⊎_elim (λ had. inl (inr had)) (λ here. inr here) (had-last held now c there)

drop-push : (t : ℕ) (held : List Contents) (now : Contents) → t ≤ length held → drop t (held ++ now ∷ []) ≡ drop t held ++ now ∷ []
drop-push zero held now le = refl
drop-push (suc t) [] now le = absurd (omega arith)
drop-push (suc t) (h ∷ held) now le = drop-push t held now (omega arith)

-- time goes on by a call
pub elapses-by : (held later : List Contents) (old new : Contents) (n m : ℕ) → n ≡ length held → m ≡ n + 1 → later ≡ held ++ old ∷ []
    → Elapses n m (λ t c. IsCrashState old c ⊎ HadCrashState (drop t held) c) (λ t c. IsCrashState new c ⊎ HadCrashState (drop t later) c) (IsCrashState new)
elapses-by held later old new n m at is pushed = record {
  later = omega (arith, is);
  nothing_else = λ t c le left. ⊎_elim (λ now. inr now) (λ had. inl (was t c le had)) left;
  keeps = λ t c le left. inr (subst (λ (l : List Contents). HadCrashState (drop t l) c) (sym pushed)
      (subst (λ (l : List Contents). HadCrashState l c) (sym (drop-push t held old (omega (arith, le, at))))
      (had-more (drop t held) old c (⊎_elim (λ now. inr now) (λ had. inl had) left))));
}
  where
    was : (t : ℕ) (c : List ℕ) → t ≤ n → HadCrashState (drop t later) c → IsCrashState old c ⊎ HadCrashState (drop t held) c
    was t c le had = ⊎_elim (λ earlier_contents. inr earlier_contents) (λ now. inl now)
        (had-last (drop t held) old c (subst (λ (l : List Contents). HadCrashState l c) (drop-push t held old (omega (arith, le, at)))
        (subst (λ (l : List Contents). HadCrashState (drop t l) c) pushed had)))

module _ (first : List ℕ) (log : Log) (held : Contents) (reached : IsReplayed first log held) (call : DiskCall) (bytes : List ℕ)
    (count : written_count call ≡ length bytes) where
  -- a call that is made
  reached-with_call : IsReplayed first (with_call call bytes log) (contents_after (fails_next log) call bytes held)
  reached-with_call = record {
    replay = replayed-more log.failing 1 (length log.calls + 1) (fresh_contents first log.call_room) log.calls log.written call bytes reached.bytes count
        (omega arith)
        ∙ ap (contents_after (fails_next log) call bytes) reached.replay;
    bytes = sum_by-append written_count log.calls (call ∷ [])
        ∙ omega (arith, reached.bytes, count, sum_by-cons written_count call [], length-append log.written bytes);
    ranges = ranges call (fails_next log);
    room = room call (fails_next log);
  }
    where
      ranges : (call : DiskCall) (fails : Bool) → length (contents_after fails call bytes held).unsynced ≤ length (log.calls ++ call ∷ [])
      ranges Size fails = omega (arith, reached.ranges, length-append log.calls (Size ∷ []))
      ranges (Read at len) fails = omega (arith, reached.ranges, length-append log.calls (Read at len ∷ []))
      ranges (Write at len) fails =
          omega (arith, reached.ranges, length-append log.calls (Write at len ∷ []), length-append held.unsynced (record { at = at; len = len } ∷ []))
      ranges Sync true = omega (arith, reached.ranges, length-append log.calls (Sync ∷ []))
      ranges Sync false = omega arith

      room : (call : DiskCall) (fails : Bool) → (contents_after fails call bytes held).room ≡ log.call_room
      room Size fails = reached.room
      room (Read at len) fails = reached.room
      room (Write at len) fails = reached.room
      room Sync true = reached.room
      room Sync false = reached.room

  earlier_contents-with_call : contents_before_calls first (with_call call bytes log) ≡ contents_before_calls first log ++ held ∷ []
  earlier_contents-with_call = earlier_contents-more log.failing 1 (fresh_contents first log.call_room) log.calls log.written call bytes reached.bytes
      ∙ ap (λ (h : Contents). contents_before_calls first log ++ h ∷ []) reached.replay

  -- a call, made or not
  reached-by : (accepted : Bool) → IsReplayed first (if accepted then with_call call bytes log else with_refusal log)
      (if accepted then contents_after (fails_next log) call bytes held else held)
  reached-by true = reached-with_call
  reached-by false = record { replay = reached.replay; bytes = reached.bytes; ranges = reached.ranges; room = reached.room }

  pub reached-call : (log' : Log) (held' : Contents) → log' ≡ log_after call bytes log → held' ≡ held_after_call call bytes log held
      → IsReplayed first log' held'
  reached-call log' held' logs holds =
      subst (λ (l : Log). IsReplayed first l held') (sym logs)
      (subst (λ (h : Contents). IsReplayed first (log_after call bytes log) h) (sym holds) (reached-by (is_made log (length bytes))))

  elapses-parts : (accepted : Bool) → (log' : Log) (held' : Contents) → log' ≡ (if accepted then with_call call bytes log else with_refusal log)
      → held' ≡ (if accepted then contents_after (fails_next log) call bytes held else held)
      → Elapses (length log.calls) (length log'.calls) (λ t c. IsCrashState held c
      ⊎ HadCrashState (drop t (contents_before_calls first log)) c) (λ t c. IsCrashState held' c
      ⊎ HadCrashState (drop t (contents_before_calls first log')) c) (IsCrashState held')
  elapses-parts true log' held' logs holds =
      elapses-by (contents_before_calls first log) (contents_before_calls first log') held held' (length log.calls) (length log'.calls)
      (sym (length-earlier_contents log.failing 1 (fresh_contents first log.call_room) log.calls log.written))
      (ap (λ (l : Log). length l.calls) logs ∙ length-append log.calls (call ∷ []))
      (ap (contents_before_calls first) logs ∙ earlier_contents-with_call)
  elapses-parts false log' held' logs holds = record {
    later = omega (arith, ap (λ (l : Log). length l.calls) logs);
    nothing_else = λ t c le left. ⊎_elim (λ now. inr now)
        (λ had. inl (inr (subst (λ (l : List Contents). HadCrashState (drop t l) c) (ap (contents_before_calls first) logs) had))) left;
    keeps = λ t c le left. ⊎_elim (λ now. inl (subst (λ (h : Contents). IsCrashState h c) (sym holds) now))
        (λ had. inr (subst (λ (l : List Contents). HadCrashState (drop t l) c) (sym (ap (contents_before_calls first) logs)) had)) left;
  }

-- time goes on by a call, made or not
pub elapses-call : (was old new : DiskState) → was ≡ old → IsReplayed was.first was.log was.held → (call : DiskCall) (bytes : List ℕ)
    → written_count call ≡ length bytes
    → new.first ≡ was.first → new.log ≡ log_after call bytes was.log → new.held ≡ held_after_call call bytes was.log was.held
    → Elapses (length old.log.calls) (length new.log.calls) (crash_states_since old) (crash_states_since new) (IsCrashState new.held)
elapses-call was old new opened reached call bytes count firsts logs holds =
    subst (λ (d : DiskState). Elapses (length d.log.calls) (length new.log.calls) (crash_states_since d) (crash_states_since new) (IsCrashState new.held))
    opened
    (subst (λ (f : List ℕ). Elapses (length was.log.calls) (length new.log.calls) (crash_states_since was) (λ t c. IsCrashState new.held c
    ⊎ HadCrashState (drop t (contents_before_calls f new.log)) c) (IsCrashState new.held)) (sym firsts)
    (elapses-parts was.first was.log was.held reached call bytes count (is_made was.log (length bytes)) new.log new.held logs holds))

-- a call that leaves what the disk holds is quiet
pub quiet-call : (was old new : DiskState) → was ≡ old → IsReplayed was.first was.log was.held → (call : DiskCall) → written_count call ≡ 0
    → new.first ≡ was.first → new.log ≡ log_after call [] was.log → new.held ≡ was.held → new.held ≡ held_after_call call [] was.log was.held
    → IsQuietDisk old new
quiet-call was old new opened reached call count firsts logs same holds =
    let time = elapses-call was old new opened reached call [] count firsts logs holds in
    let holds_same : new.held ≡ old.held = same ∙ ap (λ (d : DiskState). d.held) opened in
    record {
      tells = refl;
      tells_crashes_too = refl;
      length_is = ap (λ (h : Contents). length h.image) holds_same;
      image_is = λ _. ap (λ (h : Contents). h.image) holds_same;
      no_more = λ c left. subst (λ (h : Contents). IsCrashState h c) holds_same left;
      no_fewer = λ c left. subst (λ (h : Contents). IsCrashState h c) (sym holds_same) left;
      since = λ c left. ⊎_elim (λ earlier_contents. only_now old c earlier_contents) (λ now. subst (λ (h : Contents). IsCrashState h c) holds_same now)
          (time.nothing_else (length old.log.calls) c (omega arith) left);
      time = time;
    }

-- a call that keeps what the disk holds, made or not
pub either : (accepted : Bool) (held : Contents) → held ≡ (if accepted then held else held)
either true held = refl
either false held = refl

-- a sync that fails keeps it too
pub sync-failed : (accepted fails : Bool) (held : Contents) (r : Result Unit DiskError) (e : DiskError)
    → r ≡ (if accepted && (if fails then false else true) then Ok tt else Err Failed)
    → r ≡ Err e → held ≡ (if accepted then (if fails then held else synced_contents held) else held)
sync-failed false fails held r e answer is = refl
sync-failed true true held r e answer is = refl
sync-failed true false held r e answer is = cc

-- and one that succeeds keeps the image
pub sync-kept : (accepted fails : Bool) (held : Contents) (r : Result Unit DiskError) (u : Unit)
    → r ≡ (if accepted && (if fails then false else true) then Ok tt else Err Failed)
    → r ≡ Ok u → synced_contents held ≡ (if accepted then (if fails then held else synced_contents held) else held)
sync-kept true false held r u answer is = refl
sync-kept true true held r u answer is = cc
sync-kept false fails held r u answer is = cc

-- a write that is made is written down, and its range counts as written
pub log_after-made : (accepted : Bool) (call : DiskCall) (bytes : List ℕ) (log : Log) → accepted ≡ true
    → with_call call bytes log ≡ (if accepted then with_call call bytes log else with_refusal log)
log_after-made true call bytes log is = refl
log_after-made false call bytes log is = cc

pub held-made : (accepted fails : Bool) (held written : Contents) (at : ℕ) (bytes image : List ℕ) → accepted ≡ true
    → written ≡ with_range at (length bytes) image held
    → image ≡ (if fails then held.image else overwritten_at held.image at bytes)
    → written ≡ (if accepted then with_range at (length bytes) (if fails then held.image else overwritten_at held.image at bytes) held else held)
held-made true fails held written at bytes image is made which = made ∙ ap (λ i. with_range at (length bytes) i held) which
held-made false fails held written at bytes image is made which = cc
