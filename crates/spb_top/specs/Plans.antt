-- The store that is to be made.
use Rattle.std.specs.Prelude.{◌≡◌, ℕ, ◌≤◌, IsTrue, List, length, replicate}
use Rattle.spb_edge.specs.Fault.{HasRisen}
use Rattle.metric_laws.specs.Objects.{Object}
use Rattle.metrics_builtin.specs.Space.{fits, bits, dist}
use Rattle.spb_defs.specs.declared.TheConstants.{PIVOT_LIMIT, MEMORY_CAP}
use Rattle.spb_defs.specs.declared.Asked.{Asked}
use Rattle.spb_defs.specs.declared.Asked.TheVariants.{Make}
use Rattle.spb_defs.specs.Choice.{chosen_samples, choice_evals}
use Rattle.store_check.specs.declared.profile.Profile.{Profile}
use Rattle.store_check.specs.Profile.{no_root}
use Rattle.spb_top.specs.declared.making.Plan.{Plan}
use Rattle.spb_top.specs.declared.status.Status.{Status}
use Rattle.spb_top.specs.declared.status.Status.TheVariants.{Done, NoMemory, WriteFault, DiskFault}
use Rattle.spb_top.specs.Files.{pivot_count}

-- the words that ask for it
abbrev pub asked_plan : Plan → Asked
asked_plan plan = Make plan.curve plan.pivots plan.cap plan.space

-- its numbers are in their ranges
pub record IsPlan (plan : Plan) : Type 0 where
  pub in_range : IsTrue (fits plan.space)
  pub some_pivots : 1 ≤ plan.pivots
  pub few_pivots : plan.pivots ≤ PIVOT_LIMIT
  pub some_cap : 1 ≤ plan.cap
  pub few : plan.cap ≤ MEMORY_CAP

-- the pivots are those chosen from the samples, by so many evaluations
pub record IsChosen (plan : Plan) (samples pivots : List Object) (evals : ℕ) : Type 0 where
  pub pivots_are : pivots ≡ chosen_samples (dist plan.space) samples (pivot_count plan.pivots samples)
  pub count : length pivots ≡ pivot_count plan.pivots samples
  pub evals_are : evals ≡ choice_evals (length samples) (pivot_count plan.pivots samples)

-- the profile of the new store with this many pivots
abbrev pub new_profile : Plan → ℕ → Profile
new_profile plan pivots =
    record { space = plan.space; curve = plan.curve; pivots = pivots; bits = bits plan.space; cap = plan.cap; roots = replicate 8 no_root }

-- why the making of the file ended: it was done, memory ran out, or the sink or the disk counted a fault. No count falls.
abbrev pub StopsMaking : Status → ℕ → ℕ → ℕ → ℕ → Type 0
StopsMaking Done sink sink' disk disk' = (sink ≤ sink') × (disk ≤ disk')
StopsMaking NoMemory sink sink' disk disk' = (sink ≤ sink') × (disk ≤ disk')
StopsMaking WriteFault sink sink' disk disk' = (sink ≤ sink') × HasRisen sink sink' × (disk ≤ disk')
StopsMaking DiskFault sink sink' disk disk' = (sink ≤ sink') × (disk ≤ disk') × HasRisen disk disk'
StopsMaking _ sink sink' disk disk' = ⊥
