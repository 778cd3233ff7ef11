-- Steps of a course.
use Rattle.std.specs.Prelude.{◌≡◌, ℕ, ◌+◌, ◌-◌, ◌≤◌, ◌<◌, Bool, true, false, List, [], ◌++◌, filter, Option, Some, None, Result, Ok, Err}
use Rattle.page_laws.specs.Errors.{TellsNoDamage}
use Rattle.page_laws.specs.Pages.{count_after}
use Rattle.page_laws.specs.declared.errors.TreeError.{TreeError}
use Rattle.page_laws.specs.declared.root.Root.{Root}
use Rattle.bptree_node.specs.declared.rows.Entry.{Entry}
use Rattle.bptree_walk.specs.Courses.{Course, AreLive, IsPartOf, IsSoundCourse, walk_left, visits_left, most_nodes_left}
use Rattle.bptree_walk.specs.Damage.{TellsDamage}

-- over these pages a walk goes on, and gives these entries
pub record GoesOn (pages : ℕ → List ℕ) (live : ℕ → Bool) (meets : ℕ → ℕ → Bool) (has : ℕ → Bool) (given : List Entry) (old new : Course) : Type 0 where
  pub list : walk_left meets has pages old ≡ filter (λ (e : Entry). has e.key) given ++ walk_left meets has pages new
  pub nodes : new.fetched + visits_left meets pages new ≡ old.fetched + visits_left meets pages old
  pub sound : IsSoundCourse pages live old → IsSoundCourse pages live new
  pub part : (root : Root) → IsPartOf pages root old → IsPartOf pages root new
  pub alive : AreLive live old.ahead → AreLive live new.ahead

-- over these pages it ends by an error
pub record BreaksOff (pages : ℕ → List ℕ) (live : ℕ → Bool) (why : TreeError) (old : Course) : Type 0 where
  pub sound : IsSoundCourse pages live old → TellsNoDamage why
  pub damage : (root : Root) → IsPartOf pages root old → TellsDamage pages live root why

-- it does one of the two
abbrev pub Steps : {A : Type 0} → (ℕ → List ℕ) → (ℕ → Bool) → (ℕ → ℕ → Bool) → (ℕ → Bool) → (A → List Entry) → Result A TreeError → Course → Course → Type 0
Steps pages live meets has given (Ok x) old new = GoesOn pages live meets has (given x) old new
Steps pages live meets has given (Err why) old new = BreaksOff pages live why old

-- the fetches rise by as much as a course counts
pub record CountsFetches (old new : Course) (before now : ℕ) : Type 0 where
  pub least : old.fetched ≤ new.fetched
  pub fetches : now ≡ count_after before (new.fetched - old.fetched)

-- true says that one more node was visited, and false that none was ahead
abbrev pub VisitsOne : Result Bool TreeError → Course → Course → Type 0
VisitsOne (Ok true) old new = most_nodes_left new.ahead < most_nodes_left old.ahead
VisitsOne (Ok false) old new = (old.ahead ≡ []) × (new ≡ old)
VisitsOne (Err why) old new = Unit {0}

-- after None nothing is left
abbrev pub IsOver : Result (Option Entry) TreeError → Course → Type 0
IsOver (Ok (Some e)) new = Unit {0}
IsOver (Ok None) new = (new.entries ≡ []) × (new.ahead ≡ [])
IsOver (Err why) new = Unit {0}
