-- What a range over a curve tree finds among its entries, and what it says to be damaged.
use Rattle.std.specs.Prelude.{◌≡◌, ℕ, Bool, List, map, filter, count_by, Contains, Result, Ok, Err, ◌⊎◌}
use Rattle.metric_laws.specs.Objects.{Object}
use Rattle.metric_laws.specs.Log.{MeasuredPair}
use Rattle.page_laws.specs.Errors.{TellsNoDamage}
use Rattle.page_laws.specs.declared.errors.TreeError.{TreeError}
use Rattle.page_laws.specs.declared.root.Root.{Root}
use Rattle.bptree_node.specs.declared.rows.Entry.{Entry}
use Rattle.bptree_node.specs.Trees.{IsBPlusTree}
use Rattle.bptree_walk.specs.Courses.{begun, walk_left}
use Rattle.bptree_walk.specs.Damage.{TellsDamage, TellsWalkRule}
use Rattle.object_file.specs.ObjectFile.{Slots}
use Rattle.query_pass.specs.declared.verdict.Verdict.{Verdict}
use Rattle.query_pass.specs.declared.found.Found.{Found}
use Rattle.query_pass.specs.Verdicts.{is_within, was_measured, was_sure}
use Rattle.query_shelf.specs.Regions.{meets_box, has_key}
use Rattle.range_entries.specs.Entries.{TellsOfEntry, TellsEntryRule, pair_at}

-- ---- what is found

-- the entries that a walk of the range gives
abbrev pub entries_in_range : (axes bits : ℕ) → (ℕ → List ℕ) → List ℕ → ℕ → (ℕ → List ℕ) → Root → List Entry
entries_in_range axes bits cell_of asked radius pages root =
    walk_left (meets_box axes bits cell_of asked radius) (has_key axes bits cell_of asked radius) pages (begun root)

-- among these entries the ids of those within were kept, and those that were measured and those that were sure were counted
pub record FindsAmong (verdict : Entry → Verdict) (entries : List Entry) (found : Found ℕ) : Type 0 where
  pub kept : found.kept.items ≡ map (λ (e : Entry). e.id) (filter (λ (e : Entry). is_within (verdict e)) entries)
  pub evals : found.evals ≡ count_by (λ (e : Entry). was_measured (verdict e)) entries
  pub sure : found.sure ≡ count_by (λ (e : Entry). was_sure (verdict e)) entries

-- the query with the object of each entry that is measured
abbrev pub pairs_measured : (Entry → Verdict) → Object → (ℕ → List ℕ) → List Entry → List MeasuredPair
pairs_measured verdict query pages entries = map (pair_at query pages) (filter (λ (e : Entry). was_measured (verdict e)) entries)

-- ---- what is damaged

-- a page that the walk visits breaks the rule named, which none of a tree with live pages does
pub record TellsOfWalk (pages : ℕ → List ℕ) (live : ℕ → Bool) (root : Root) (why : TreeError) : Type 0 where
  pub breaks : TellsDamage pages live root why
  pub sound : IsBPlusTree pages live root → TellsNoDamage why

-- it is the key or the slot of one of these entries
pub record TellsOfOne (admitted : Object → Type 0) (axes bits : ℕ) (slots : Slots) (pages : ℕ → List ℕ) (collection : ℕ) (entries : List Entry) (why : TreeError) : Type 0 where
  pub entry : Entry
  pub among : Contains entries entry
  pub tells : TellsOfEntry admitted axes bits slots pages collection entry why

-- what an error says to be damaged is a page of the walk, or of one of the entries that it gives
abbrev pub TellsRange : {A : Type 0} → (Object → Type 0) → (axes bits : ℕ) → Slots → (ℕ → List ℕ) → (ℕ → Bool) → ℕ → Root → List Entry → Result A TreeError → Type 0
TellsRange admitted axes bits slots pages live collection root entries (Ok _) = Unit {0}
TellsRange admitted axes bits slots pages live collection root entries (Err why) =
    TellsOfWalk pages live root why ⊎ TellsOfOne admitted axes bits slots pages collection entries why

-- which rules are named, whatever the pages hold
abbrev pub NamesRangeRule : {A : Type 0} → Slots → Result A TreeError → Type 0
NamesRangeRule slots (Ok _) = Unit {0}
NamesRangeRule slots (Err why) = TellsWalkRule why ⊎ TellsEntryRule slots why
