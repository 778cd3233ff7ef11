-- What happened outside of a run.
use Rattle.std.specs.Prelude.{ℕ, ◌≤◌, Bool, List, Option, Some, None, if◌then◌else◌}
use Rattle.spb_edge.specs.declared.source.Source as source
use Rattle.spb_edge.specs.declared.sink.Sink as sink
use Rattle.spb_edge.specs.declared.disk.Disk as disk
use Rattle.spb_edge.specs.declared.reader.LineReader.{LineReader}
use Rattle.spb_edge.specs.Reader.{rest, faults}

-- the faults that something had counted before, and those that it has counted now
pub record Faults : Type 0 where
  pub before : ℕ
  pub now : ℕ

-- what went on at the source, the sink and the disk: their faults, and what the source had before, if that is known
pub record Traffic : Type 0 where
  pub source : Faults
  pub sink : Faults
  pub disk : Faults
  pub input : Option (List ℕ)

-- what a run met outside: the traffic, the image of the disk before it, if that is known, and the disk's size before it
pub record Outside : Type 0 where
  pub traffic : Traffic
  pub image : Option (List ℕ)
  pub size : ℕ

-- the image of a disk, if it is known
abbrev pub known_image : {D : Type 0} → (D → Bool) → (D → List ℕ) → D → Option (List ℕ)
known_image is_known image disk = if is_known disk then Some (image disk) else None

module _ {S K : Type 0} (G : source.Ghosts S) (H : sink.Ghosts K) where
  -- the traffic of a source and a sink, with the faults of a disk
  abbrev pub traffic_of : S → S → K → K → ℕ → ℕ → Traffic
  traffic_of input input' output output' before now = record {
    source = record { before = G.faults input; now = G.faults input' };
    sink = record { before = H.faults output; now = H.faults output' };
    disk = record { before = before; now = now };
    input = G.left input;
  }

  -- the same of a reader, which has the input before it
  abbrev pub reader_traffic : LineReader S G → LineReader S G → K → K → ℕ → ℕ → Traffic
  reader_traffic reader reader' output output' before now = record {
    source = record { before = faults reader; now = faults reader' };
    sink = record { before = H.faults output; now = H.faults output' };
    disk = record { before = before; now = now };
    input = rest reader;
  }

  -- what a source, a sink and a disk were before the run and are now
  abbrev pub outside_of : {D : Type 0} → disk.Ghosts D → S → S → K → K → D → D → Outside
  outside_of E input input' output output' disk disk' = record {
    traffic = traffic_of input input' output output' (E.faults disk) (E.faults disk');
    image = known_image E.is_known E.image disk;
    size = E.size_of disk;
  }

-- no count of faults fell
pub record NoneFell (traffic : Traffic) : Type 0 where
  pub source : traffic.source.before ≤ traffic.source.now
  pub sink : traffic.sink.before ≤ traffic.sink.now
  pub disk : traffic.disk.before ≤ traffic.disk.now

-- the same if nothing is read: what a sink and a disk were before the run and are now
abbrev pub unread_outside : {K D : Type 0} → sink.Ghosts K → disk.Ghosts D → K → K → D → D → Outside
unread_outside H E output output' disk disk' = record {
  traffic = record {
    source = record { before = 0; now = 0 };
    sink = record { before = H.faults output; now = H.faults output' };
    disk = record { before = E.faults disk; now = E.faults disk' };
    input = None;
  };
  image = known_image E.is_known E.image disk;
  size = E.size_of disk;
}
