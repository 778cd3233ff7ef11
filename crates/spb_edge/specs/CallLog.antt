-- The record of the calls of a disk in memory, and which of them fail.
use Rattle.std.specs.Prelude.{ℕ, ◌+◌, Bool, true, false, ◌&&◌, List, [], ◌∷◌, ◌++◌, Option, Some, None, length, nat_lt, nat_le, if◌then◌else◌, ◌==◌}
use Rattle.std.specs.List.{list_any}
use Rattle.spb_edge.specs.declared.call_log.DiskCall.{DiskCall}
use Rattle.spb_edge.specs.Fault.{next_count}

-- the calls so far, the bytes of their writes joined, the numbers of the calls that fail, after how many
-- calls the disk stops, how many calls and written bytes there is room for, and how many calls failed
pub record Log : Type 0 where
  pub calls : List DiskCall
  pub written : List ℕ
  pub failing : List ℕ
  pub stop : Option ℕ
  pub call_room : ℕ
  pub byte_room : ℕ
  pub faults : ℕ

-- no call was made
abbrev pub empty_log : List ℕ → Option ℕ → ℕ → ℕ → Log
empty_log failing stop call_room byte_room = record {
  calls = [];
  written = [];
  failing = failing;
  stop = stop;
  call_room = call_room;
  byte_room = byte_room;
  faults = 0;
}

-- whether the disk still runs after this many calls
abbrev pub is_running : Option ℕ → ℕ → Bool
is_running None made = true
is_running (Some stop) made = nat_lt made stop

-- whether a call that writes this many bytes is made at all: the disk runs, and its record has room
abbrev pub is_made : Log → ℕ → Bool
is_made log count = is_running log.stop (length log.calls) && nat_lt (length log.calls) log.call_room && nat_le (length log.written + count) log.byte_room

-- whether the call with this number fails
abbrev pub is_failing : List ℕ → ℕ → Bool
is_failing failing number = list_any (λ n. n == number) failing

-- whether the next call fails, if it is made: calls are numbered from 1
abbrev pub fails_next : Log → Bool
fails_next log = is_failing log.failing (length log.calls + 1)

-- a call that isn't made fails, and is counted
abbrev pub with_refusal : Log → Log
with_refusal log = record log { faults = next_count log.faults }

-- a call that is made, with the bytes that it writes
abbrev pub with_call : DiskCall → List ℕ → Log → Log
with_call call bytes log = record log {
  calls = log.calls ++ call ∷ [];
  written = log.written ++ bytes;
  faults = if fails_next log then next_count log.faults else log.faults;
}

-- a call is made or not
abbrev pub log_after : DiskCall → List ℕ → Log → Log
log_after call bytes log = if is_made log (length bytes) then with_call call bytes log else with_refusal log

-- whether a call that writes this many bytes succeeds, if there is memory
abbrev pub succeeds : Log → ℕ → Bool
succeeds log count = is_made log count && (if fails_next log then false else true)
