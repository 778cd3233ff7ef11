-- A disk in memory that keeps a record of its calls: what it held before each of them follows from it.
use Rattle.std.proofs.Common.{◌≡◌, ◌⊎◌, inl, inr, ℕ, suc, ◌+◌, ◌<◌, ◌≤◌, Bool, true, false, Option, Result, Ok, Err, List, [], ◌∷◌, length, take, drop, sum_by, if◌then◌else◌, refl, sym, ap, subst}
use Rattle.spb_edge.specs.declared.call_log.DiskCall.{DiskCall}
use Rattle.spb_edge.specs.declared.call_log.DiskCall.TheVariants.{Size, Read, Write, Sync}
use Rattle.spb_edge.specs.declared.mem_disk.Choice.{Choice}
use Rattle.spb_edge.specs.declared.mem_disk.Choice.TheVariants.{KeepAll, DropAll, Fill}
use Rattle.spb_edge.specs.declared.disk.DiskError.{DiskError}
use Rattle.spb_edge.specs.declared.disk.DiskError.TheVariants.{Failed, Memory}
use Rattle.spb_edge.specs.CallLog.{Log, empty_log, is_made, is_failing, fails_next, log_after, succeeds}
use Rattle.spb_edge.specs.Contents.{Contents, IsCrashState, fresh_contents, with_range, synced_contents, with_ranges_filled}
use Rattle.spb_edge.specs.Disk.{overwritten_at}
use Rattle.spb_edge.specs.Crash.{Includes}
use Rattle.spb_edge.specs.Quiet.{IsQuiet}

-- the image that it was made with, the record of its calls, what it holds, and how many reads were asked
-- of it
pub record DiskState : Type 0 where
  pub first : List ℕ
  pub log : Log
  pub held : Contents
  pub reads : ℕ

-- how many bytes a call writes
abbrev pub written_count : DiskCall → ℕ
written_count Size = 0
written_count (Read at len) = 0
written_count (Write at len) = len
written_count Sync = 0

-- what the disk holds after a call that was made, and failed or not: a write that fails counts as a
-- written range, and a sync that fails keeps nothing
abbrev pub contents_after : Bool → DiskCall → List ℕ → Contents → Contents
contents_after fails Size bytes now = now
contents_after fails (Read at len) bytes now = now
contents_after fails (Write at len) bytes now = with_range at len (if fails then now.image else overwritten_at now.image at bytes) now
contents_after fails Sync bytes now = if fails then now else synced_contents now

-- what it holds after a call, made or not
abbrev pub held_after_call : DiskCall → List ℕ → Log → Contents → Contents
held_after_call call bytes log held = if is_made log (length bytes) then contents_after (fails_next log) call bytes held else held

-- the disk after a call with the bytes that it writes: one that isn't made changes nothing but the count
-- of faults
abbrev pub disk_after : DiskCall → List ℕ → DiskState → DiskState
disk_after call bytes d = record d { log = log_after call bytes d.log; held = held_after_call call bytes d.log d.held }

-- a disk on which no call was made
abbrev pub new_disk : List ℕ → List ℕ → Option ℕ → ℕ → ℕ → DiskState
new_disk image failing stop calls bytes = record { first = image; log = empty_log failing stop calls bytes; held = fresh_contents image calls; reads = 0 }

-- what a write answers: only a write that is made, doesn't fail and grows the image runs out of memory, and then
-- nothing changes
abbrev pub AnswersWrite : Result Unit DiskError → DiskState → ℕ → List ℕ → DiskState → Type 0
AnswersWrite (Ok _) old at bytes new = (succeeds old.log (length bytes) ≡ true) × (new ≡ disk_after (Write at (length bytes)) bytes old)
AnswersWrite (Err Failed) old at bytes new = (succeeds old.log (length bytes) ≡ false) × (new ≡ disk_after (Write at (length bytes)) bytes old)
AnswersWrite (Err Memory) old at bytes new = (succeeds old.log (length bytes) ≡ true) × (length old.held.image < at + length bytes) × (new ≡ old)

-- what it held before each of these calls, of which the first has the given number
abbrev pub earlier_contents : List ℕ → ℕ → Contents → List DiskCall → List ℕ → List Contents
earlier_contents failing number now [] written = []
earlier_contents failing number now (call ∷ calls) written =
    now ∷ earlier_contents failing (number + 1) (contents_after (is_failing failing number) call (take (written_count call) written) now) calls
    (drop (written_count call) written)

-- what it holds after them
abbrev pub replayed : List ℕ → ℕ → Contents → List DiskCall → List ℕ → Contents
replayed failing number now [] written = now
replayed failing number now (call ∷ calls) written =
    replayed failing (number + 1) (contents_after (is_failing failing number) call (take (written_count call) written) now) calls
    (drop (written_count call) written)

-- the image was a crash state of one of them
abbrev pub HadCrashState : List Contents → List ℕ → Type 0
HadCrashState [] c = ⊥
HadCrashState (held ∷ earlier_contents) c = IsCrashState held c ⊎ HadCrashState earlier_contents c

-- what the disk held before each call so far
abbrev pub contents_before_calls : List ℕ → Log → List Contents
contents_before_calls first log = earlier_contents log.failing 1 (fresh_contents first log.call_room) log.calls log.written

-- what a crash may leave now, or might have left before a call from the given one on
abbrev pub crash_states_since : DiskState → ℕ → List ℕ → Type 0
crash_states_since d t c = IsCrashState d.held c ⊎ HadCrashState (drop t (contents_before_calls d.first d.log)) c

-- the record gives what the disk holds
pub record IsReplayed (first : List ℕ) (log : Log) (held : Contents) : Type 0 where
  pub replay : replayed log.failing 1 (fresh_contents first log.call_room) log.calls log.written ≡ held
  pub bytes : sum_by written_count log.calls ≡ length log.written
  pub ranges : length held.unsynced ≤ length log.calls
  pub room : held.room ≡ log.call_room

-- the image that a crash leaves by choice: all that was written, the kept image, or that with this many of a byte in
-- each range since
abbrev pub chosen_crash_state : Choice → Contents → List ℕ
chosen_crash_state KeepAll now = now.image
chosen_crash_state DropAll now = now.kept
chosen_crash_state (Fill byte) now = with_ranges_filled byte now.kept now.unsynced

-- nothing happened between two states that a crash could show
abbrev pub IsQuietDisk : DiskState → DiskState → Type 0
IsQuietDisk old new = IsQuiet (λ (d : DiskState). true) (λ (d : DiskState). true) (λ (d : DiskState). length d.held.image) (λ (d : DiskState). d.held.image)
    (λ (d : DiskState). IsCrashState d.held) (λ (d : DiskState). length d.log.calls) crash_states_since old new

-- before each call it held something
pub length-earlier_contents : (failing : List ℕ) (number : ℕ) (now : Contents) (calls : List DiskCall) (written : List ℕ)
    → length (earlier_contents failing number now calls written) ≡ length calls
length-earlier_contents failing number now [] written = refl
length-earlier_contents failing number now (call ∷ calls) written =
    ap suc (length-earlier_contents failing (number + 1) (contents_after (is_failing failing number) call (take (written_count call) written) now) calls
    (drop (written_count call) written))

none_left : (held : List Contents) (c : List ℕ) → HadCrashState (drop (length held) held) c → ⊥
none_left [] c had = had
none_left (now ∷ held) c had = none_left held c had

-- since now, a crash leaves only what it may leave now
pub only_now : (d : DiskState) → Includes (IsCrashState d.held) (crash_states_since d (length d.log.calls))
only_now d c (inl now) = now
only_now d c (inr had) = absurd (none_left (contents_before_calls d.first d.log) c
    (subst (λ (n : ℕ). HadCrashState (drop n (contents_before_calls d.first d.log)) c)
    (sym (length-earlier_contents d.log.failing 1 (fresh_contents d.first d.log.call_room) d.log.calls d.log.written)) had))
