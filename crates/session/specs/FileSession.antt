-- A session over a store in a file, as contracts see it.
use Rattle.std.specs.Prelude.{◌≡◌, IsTrue, Option, None, Result, Ok, Err}
use Rattle.metric_laws.specs.Objects.{Object, Distance}
use Rattle.metrics_builtin.specs.Space.{fits}
use Rattle.spb_defs.specs.MetricOf.{IsMetricOf}
use Rattle.spb_defs.specs.declared.Reply.{Reply}
use Rattle.spb_defs.specs.declared.Reply.TheVariants.{Exists, Absent, Full}
use Rattle.pivot_map.specs.Rows.{ArePivots}
use Rattle.open_store.specs.declared.errors.First.{First}
use Rattle.open_store.specs.declared.errors.First.TheVariants as first
use Rattle.open_store.specs.declared.errors.ChangeError.{ChangeError}
use Rattle.open_store.specs.declared.errors.ChangeError.TheVariants as change
use Rattle.open_store.specs.Store.{StoreView}

-- the store, and the error after which the session has ended
pub record FileView (D M : Type 0) : Type 0 where
  pub store : StoreView D M
  pub ended : Option First

-- the space fits, the metric is that of the space, and it admits the pivots
pub record HasMetric {D M : Type 0} (admitted : M → Object → Type 0) (dist : M → Distance) (v : StoreView D M) : Type 0 where
  pub in_range : IsTrue (fits v.profile.space)
  pub metric_is : IsMetricOf (admitted v.metric) (dist v.metric) v.profile.space
  pub pivots_are : ArePivots (admitted v.metric) v.pivots

-- What holds of every session over a file: its store has its metric, and isn't spent unless the session has ended.
pub record IsFileSession {D M : Type 0} (admitted : M → Object → Type 0) (dist : M → Distance) (v : FileView D M) : Type 0 where
  pub metric_is : HasMetric admitted dist v.store
  pub unspent : v.ended ≡ None → v.store.spent ≡ None

-- what no turn changes: the reference to the disk, how many pages there are, and what the store was opened with
pub record HasSameFile {D M : Type 0} (old new : StoreView D M) : Type 0 where
  pub same_name : new.pages.name ≡ old.pages.name
  pub same_total : new.pages.total ≡ old.pages.total
  pub same_pivots : new.pivots ≡ old.pivots
  pub same_profile : new.profile ≡ old.profile
  pub same_metric : new.metric ≡ old.metric

-- the reply to what the store refused, or the error that ends the session
abbrev pub error_reply : ChangeError → Result Reply First
error_reply change.Exists = Ok Exists
error_reply change.Absent = Ok Absent
error_reply change.Full = Ok Full
error_reply change.DiskFault = Err first.DiskFault
error_reply (change.Damaged page rule) = Err (first.Damaged page rule)
error_reply change.Memory = Err first.Memory
error_reply (change.Spent e) = Err e
