-- Logs that grow one after the other.
use Rattle.std.proofs.Common.{◌≡◌, List, [], ◌++◌, Option, Some, None, sym, ap, ◌∙◌, append_assoc, append-nil}
use Rattle.metric_laws.specs.Log.{MeasuredPair, LogExtends}

-- nothing was measured
pub LogExtends-nothing : (log : Option (List MeasuredPair)) → LogExtends log log []
LogExtends-nothing None = tt
LogExtends-nothing (Some log) = sym (append-nil log)

-- some pairs, and then others
pub LogExtends-then : (before amid now : Option (List MeasuredPair)) (first second : List MeasuredPair) → LogExtends before amid first
    → LogExtends amid now second → LogExtends before now (first ++ second)
LogExtends-then before None None first second a b = tt
LogExtends-then before None (Some now) first second a b = absurd b
LogExtends-then before (Some amid) None first second a b = tt
LogExtends-then None (Some amid) (Some now) first second a b = absurd a
LogExtends-then (Some before) (Some amid) (Some now) first second a b = b ∙ ap (λ log. log ++ second) a ∙ append_assoc before first second

-- the same pairs
pub LogExtends-same : (before now : Option (List MeasuredPair)) (first second : List MeasuredPair) → first ≡ second → LogExtends before now first
    → LogExtends before now second
LogExtends-same before None first second same a = tt
LogExtends-same None (Some now) first second same a = a
LogExtends-same (Some before) (Some now) first second same a = a ∙ ap (λ pairs. before ++ pairs) same
