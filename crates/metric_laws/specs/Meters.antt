-- What a ruler that writes a log keeps.
use Rattle.std.specs.Prelude.{ℕ, List, [], Option, Some, None, Vec}
use Rattle.metric_laws.specs.Log.{MeasuredPair}
use Rattle.metric_laws.specs.declared.ruler.Traced.{Traced}

-- the metric, how many distances it measured, and which, while that is known
pub record Trace (M : Type 0) : Type 0 where
  pub metric : M
  pub count : ℕ
  pub log : Option (List MeasuredPair)

-- the log as a list, empty if it isn't known
abbrev pub known_log : Option (List MeasuredPair) → List MeasuredPair
known_log None = []
known_log (Some log) = log

abbrev pub log_of : {G : Type 0} → Option (Vec (List ℕ × List ℕ) G) → Option (List MeasuredPair)
log_of None = None
log_of (Some pairs) = Some pairs.items

abbrev pub trace_of : {M : Type 0} → Traced M → Trace M
trace_of r = record { metric = r.ruler.metric; count = r.ruler.count; log = log_of r.pairs }
